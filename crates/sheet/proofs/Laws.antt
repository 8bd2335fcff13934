-- The ways of an assignment and of the file's loop.
use mathlib.Core.Path.{◌≡◌, refl, sym, ap, ◌∙◌}
use mathlib.Core.Bool.{true, false, cond}
use mathlib.Core.List.{List}
use Rattle.std.specs.Prelude.{Option, Some, None, is_some, Ok, Err}
use Prim.Native.Nat.{ℕ, zero, suc, ◌+◌, ◌-◌, ◌≤◌, ◌<◌}
use native.Mathlib.Omega.{arith}
use borrow.Author.Tests.{lt-ltb, le-ltb, le-leb, lt-leb, eq-eqb, ne_eqb}
use lib.Dec.{leb, eqb}
use lib.ListN.{length, get_or}
use Rattle.formula.specs.Sizes.{most_names, longest, nesting}
use Rattle.formula.specs.Tree.{Res, got, bad, unk}
use Rattle.formula.specs.Text.{seen, in_class, skip_of, word_end}
use Rattle.formula.specs.Emit.{Out, Read, read_at, failed, emitted}
use Rattle.formula.specs.Names.{look_up, name_in}
use Rattle.formula.specs.Levels.{or_of}
use Rattle.formula.specs.declared.Class.TheVariants.{Blank}
use Rattle.formula.specs.declared.Gates.{Gates}
use Rattle.formula.specs.declared.Names.{Names}
use Rattle.formula.specs.declared.Why.{Why}
use Rattle.formula.specs.declared.Why.TheVariants.{Text, Name}
use Rattle.formula.proofs.Laws.{past-ge}
use Rattle.grammar.specs.File.{line_ends}
use Rattle.sheet.specs.declared.Book.{Book}
use Rattle.sheet.specs.Sheet.{no_book, set_name, line_ended, targeted, assigning, assign_at, Sheet, onward, filed, file_of, book_by, book_of}
use Rattle.sheet.proofs.Shape.{Made, made, made_fwd}

-- after a refusal, and after a formula
end_refused : (s : List ℕ) (g h : Gates) (x : Why) (r : Res) → read_at h (Err x) ≡ emitted g r → read_at h (Err x) ≡ line_ended s (emitted g r)
unfolding line_ended
end_refused s g h x (got q t) e = let k = ap (λ (r : Read). r.out) e in let z : ◌≡◌ {A = ℕ} 0 1 = cc in absurd (omega arith)
end_refused s g h x (bad q) e = e
end_refused s g h x (unk q) e = e

end_read : (s : List ℕ) (h : Gates) (z v : ℕ) → line_ended s (read_at h (Ok (z, v))) ≡ cond (line_ends s z) (read_at h (Ok (z, v))) (failed (Text z))
unfolding line_ended
end_read s h z v = refl

module _ (s : List ℕ) (t : Names) (p : ℕ) (g : Gates) where
  pub too_many : (a : Read) → most_names ≤ t.n → a ≡ failed (Text p) → a ≡ assigning s t p g
  unfolding assigning
  too_many a h k = k ∙ rw (le-leb _ _ h)

  module _ (room : t.n < most_names) (e : ℕ) (at : e ≡ word_end s p) where
    pub no_name : (a : Read) → e ≤ p → a ≡ failed (Text p) → a ≡ assigning s t p g
    unfolding assigning
    no_name a h k = k ∙ rw (← at, lt-leb _ _ room, le-leb _ _ h)

    pub long_name : (a : Read) → p < e → longest < e - p → a ≡ failed (Text (p + longest)) → a ≡ assigning s t p g
    unfolding assigning
    long_name a h m k = k ∙ rw (← at, lt-leb _ _ room, lt-leb _ _ h, lt-ltb _ _ m)

    module _ (h : p < e) (m : e - p ≤ longest) (f : Option ℕ) (ef : f ≡ look_up s t.low t.high t.lines t.n p e) where
      on_target : assigning s t p g ≡ targeted s (name_in s t) p g f
      unfolding assigning
      on_target = rw (← at, lt-leb _ _ room, lt-leb _ _ h, le-ltb _ _ m, ef)

      pub known_name : (a : Read) → is_some f ≡ true → a ≡ failed (Name (e - 1)) → a ≡ assigning s t p g
      known_name a w k = k ∙ sym (on_target ∙ by f w)
        where
          by : (f : Option ℕ) → is_some f ≡ true → targeted s (name_in s t) p g f ≡ failed (Name (e - 1))
          by (Some v) w = rw at
          by None w = let n : ◌≡◌ {A = ℕ} 0 1 = cc in absurd (omega arith)

      module _ (w : is_some f ≡ false) (q : ℕ) (eq : q ≡ skip_of s e) where
        after_name : assigning s t p g ≡ cond (seen s q 61) (line_ended s (emitted g (or_of s (name_in s t) nesting (q + 1)))) (failed (Text q))
        after_name = on_target ∙ by f w
          where
            by : (f : Option ℕ) → is_some f ≡ false → targeted s (name_in s t) p g f ≡ cond (seen s q 61) (line_ended s (emitted g (or_of s (name_in s t) nesting (q + 1)))) (failed (Text q))
            by (Some v) w = let n : ◌≡◌ {A = ℕ} 0 1 = cc in absurd (omega arith)
            by None w = rw (eq, at)

        pub no_sign : (a : Read) → seen s q 61 ≡ false → a ≡ failed (Text q) → a ≡ assigning s t p g
        no_sign a b k = k ∙ sym (after_name ∙ rw b)

        -- what was read after the sign
        module _ (b : seen s q 61 ≡ true) (h' : Gates) where
          formula_read : line_ended s (emitted g (or_of s (name_in s t) nesting (q + 1))) ≡ assigning s t p g
          formula_read = sym (after_name ∙ rw b)

          pub formula_refused : (x : Why) → read_at h' (Err x) ≡ emitted g (or_of s (name_in s t) nesting (q + 1)) → read_at h' (Err x) ≡ assigning s t p g
          formula_refused x e = end_refused s g h' x _ e ∙ formula_read

          module _ (z v : ℕ) (er : read_at h' (Ok (z, v)) ≡ emitted g (or_of s (name_in s t) nesting (q + 1))) where
            pub line_more : (a : Read) → line_ends s z ≡ false → a ≡ failed (Text z) → a ≡ assigning s t p g
            line_more a l k = k ∙ sym (end_read s h' z v ∙ rw l) ∙ ap (line_ended s) er ∙ formula_read

            pub line_over : line_ends s z ≡ true → read_at h' (Ok (z, v)) ≡ assigning s t p g
            line_over l = sym (end_read s h' z v ∙ rw l) ∙ ap (line_ended s) er ∙ formula_read

pub ahead : (s : List ℕ) (p q : ℕ) → q ≡ skip_of s p → p ≤ q
ahead s p q e = rw e (past-ge (in_class Blank) s p)

-- ---- the file's loop: what is still to be read from p on gives the whole answer

pub record Reading (s : List ℕ) (p : ℕ) (b : Book) : Type 0 where
  pub fuel : ℕ
  pub enough : length s - p < fuel
  pub same : filed s fuel p b ≡ file_of s

module _ (s : List ℕ) where
  pub begins : (b : Book) → b ≡ no_book → Reading s 0 b
  begins b e = record { fuel = suc (length s); enough = omega arith; same = rw e }

  module _ (p : ℕ) (b : Book) (r : Reading s p b) (q : ℕ) (eq : q ≡ skip_of s p) where
    opened : (f : ℕ) → length s - p < f → filed s f p b ≡ cond (leb (length s) q) (record { book = b; step = Ok q })
        (cond (eqb (get_or s q 0) 10) (filed s (f - 1) (q + 1) b) (onward (λ z c. filed s (f - 1) z c) s q b (assign_at s q b).gates (assign_at s q b).out))
    unfolding filed
    opened zero h = absurd (omega arith)
    opened (suc f) h = let k : suc f - 1 ≡ f = omega arith in rw (eq, k)

    pub over : length s ≤ q → Ok (b, q) ≡ book_of s
    over h =
        let k : record { book = b; step = Ok q } ≡ file_of s = sym (opened r.fuel r.enough ∙ rw (le-leb _ _ h)) ∙ r.same in
        ap (λ (x : Sheet). book_by x.book x.step) k

    module _ (h : q < length s) where
      pub blank_line : get_or s q 0 ≡ 10 → Reading s (q + 1) b
      blank_line k =
          record {
            fuel = r.fuel - 1;
            enough = omega (arith, r.enough, past-ge (in_class Blank) s p);
            same = sym (opened r.fuel r.enough ∙ rw (lt-leb _ _ h, eq-eqb _ _ k)) ∙ r.same;
          }

      module _ (k : get_or s q 0 ≡ 10 → ⊥) (g : Gates) where
        shown : (o : Out) → read_at g o ≡ assign_at s q b → onward (λ z c. filed s (r.fuel - 1) z c) s q b g o ≡ file_of s
        shown o e =
            ap (λ (x : Read). onward (λ z c. filed s (r.fuel - 1) z c) s q b x.gates x.out) e
            ∙ sym (opened r.fuel r.enough ∙ rw (lt-leb _ _ h, ne_eqb _ _ k)) ∙ r.same

        pub refused_by : (w : Why) → read_at g (Err w) ≡ assign_at s q b → Err w ≡ book_of s
        refused_by w e = ap (λ (x : Sheet). book_by x.book x.step) (shown (Err w) e)

        module _ (z v : ℕ) (e : read_at g (Ok (z, v)) ≡ assign_at s q b) where
          done : Made s q z b
          done = made s q z v b (ap (λ (x : Read). x.out) (sym e))

          pub room : b.names.n < most_names
          room = done.room

          pub forth : q < z
          forth = made_fwd s q z b done

          pub assigned : Reading s z (set_name s b g q v)
          assigned = record { fuel = r.fuel - 1; enough = omega (arith, r.enough, past-ge (in_class Blank) s p, forth); same = shown (Ok (z, v)) e }
