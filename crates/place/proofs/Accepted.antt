-- A text is good exactly where the automaton accepts it.
use Rattle.std.specs.Prelude.{Some}
use mathlib.Core.Path.{◌≡◌, refl, sym, ap, subst, ◌∙◌}
use mathlib.Core.Bool.{Bool, true, false}
use mathlib.Core.List.{List, [], ◌∷◌}
use Prim.Native.Nat.{ℕ, zero, suc, ◌+◌, ◌-◌, ◌≤◌, ◌<◌}
use native.Mathlib.Omega.{arith}
use borrow.Author.Tests.{ltb-true, ltb-false, leb-true, leb-false}
use lib.Dec.{leb, ltb}
use lib.ListN.{length, get_or}
use Rattle.formula.specs.Sizes.{most_names, longest, nesting}
use Rattle.formula.specs.Text.{seen, in_class, skip_of, word_end}
use Rattle.formula.specs.Tree.{Tree, Res, got, bad, unk}
use Rattle.formula.specs.Levels.{or_of}
use Rattle.formula.specs.declared.Class.TheVariants.{Blank}
use Rattle.formula.proofs.Laws.{past-ge}
use Rattle.grammar.specs.File.{any_name, line_ends, sign_after, Assignment, Assigns, Lines, over, blank, assigned, Good}
use Rattle.grammar.proofs.Unique.{found-formula}
use Rattle.grammar.proofs.Files.{any_past, assigns_found, assigns_ahead}
use Rattle.place.proofs.Automaton.{sign, after, State, fresh, want, then, dead, run, step, ok, trace, trace_zero, trace_next, trace_all}
use Rattle.place.proofs.Walk.{As, Stuck, exactly}
use Rattle.place.proofs.Levels.{NoSpace, NoOp, Plain, Fits, name_fits, skipped, formula_fits}
use Rattle.place.proofs.Parts.{blanks, line-over, target, long_target, too_many, no_target, sign_on, sign_none, line_on, line-none}

-- no name is unknown where each is taken as it is
abbrev Never : ℕ → Type 0
Never q = ⊥

module _ (s : List ℕ) where
  any_names : (c d o p : ℕ) → As s p (want c d o) → Plain s p → Fits s c Never (NoSpace s) d o (any_name s p)
  any_names c d o p a w = name_fits s c Never (λ p e. Some p) d o p (λ e h l. let z : ◌≡◌ {A = ℕ} 0 1 = cc in omega arith) a w

  any_fits : (c p : ℕ) → As s p (want c nesting 0) → Fits s c Never (NoOp s) nesting 0 (or_of s (any_name s) nesting p)
  any_fits c p a = formula_fits s c Never (any_name s) (any_past s) (any_names c) nesting 0 p a

  pub begin : As s 0 (fresh 0)
  begin = exactly s 0 (fresh 0) (trace_zero s) (omega arith) refl

  -- ---- a good text is accepted

  lines_accepted : (c p : ℕ) (l : List Assignment) → Lines s c p l → As s p (fresh c) → ok (trace s (length s)) ≡ true
  lines_accepted c p l (over e) a = subst (λ (i : ℕ). ok (trace s i) ≡ true) e (blanks s c p a).0.same
  lines_accepted c p l (blank w y) a = lines_accepted c (skip_of s p + 1) l y (line-over s c (skip_of s p) (blanks s c p a).0 w)
  lines_accepted c p l (assigned {z = z} {a = b} {l = m} few x y) a =
      let q = skip_of s p in
      let u = target s c q (blanks s c p a).0 few x.some (omega (arith, x.short)) in
      let v = sign_on s c (sign_after s q) (skipped s (sign c) (word_end s q) u).0 x.sign in
      let r : Fits s c Never (NoOp s) nesting 0 (got z b.formula) = subst (Fits s c Never (NoOp s) nesting 0) (assigns_found s q z b x) (any_fits c (sign_after s q + 1) v) in
      lines_accepted (suc c) z m y (line_on s c z r.0 x.line)

  pub good_accepted : Good s → ok (run (fresh 0) s) ≡ true
  good_accepted w = ap ok (sym (trace_all s)) ∙ lines_accepted 0 0 w.reading w.file begin

  -- ---- an accepted text is good

  -- the automaton is not stuck on its way
  no_way : (q : ℕ) → Stuck s q → ok (trace s (length s)) ≡ true → ⊥
  unfolding step
  no_way q w e = by (ltb q (length s)) refl
    where
      dies : (n i : ℕ) → i ≡ q + 1 + n → i ≤ length s → q < length s → trace s i ≡ dead
      dies zero i k h m = let z : i ≡ q + 1 = omega arith in ap (trace s) z ∙ w.never m
      dies (suc n) i k h m =
          let z : i ≡ i - 1 + 1 = omega arith in
          ap (trace s) z ∙ trace_next s (i - 1) (omega arith) ∙ ap (λ (x : State). step x (get_or s (i - 1) 0)) (dies n (i - 1) (omega arith) (omega arith) m)

      by : (t : Bool) → ltb q (length s) ≡ t → ⊥
      by true h =
          let k = ltb-true q (length s) h in
          let d = dies (length s - (q + 1)) (length s) (omega arith) (omega arith) k in
          let f : ok dead ≡ true = sym (ap ok d) ∙ e in
          let z : ◌≡◌ {A = ℕ} 0 1 = cc in omega arith
      by false h =
          let k : q ≡ length s = omega (arith, ltb-false q (length s) h, w.within) in
          let f = sym (w.short k) ∙ ap (λ (i : ℕ). ok (trace s i)) k ∙ e in
          let z : ◌≡◌ {A = ℕ} 0 1 = cc in omega arith

  -- an assignment at p, after c of them
  record Turn (c p : ℕ) : Type 0 where
    z : ℕ
    what : Assignment
    few : c < most_names
    is : Assigns s p z what
    goes : As s z (fresh (suc c))

  -- lines from p on, after c assignments
  record Rest (c p : ℕ) : Type 0 where
    reading : List Assignment
    lines : Lines s c p reading

  put_first : (c p : ℕ) (x : Turn c (skip_of s p)) → Rest (suc c) x.z → Rest c p
  put_first c p x r = record { reading = x.what ∷ r.reading; lines = assigned x.few x.is r.lines }

  module _ (g : ok (trace s (length s)) ≡ true) where
    turn : (c p : ℕ) → As s p (fresh c) → NoSpace s p → p < length s → seen s p 10 ≡ false → Turn c p
    turn c p a ns h nl = by (leb most_names c) refl (leb e p) refl (ltb longest (e - p)) refl (seen s q 61) refl (or_of s (any_name s) nesting (q + 1)) refl
      where
        e : ℕ
        e = word_end s p

        q : ℕ
        q = sign_after s p

        sure : c < most_names → p < e → e - p ≤ longest → As s q (then (sign c)) × NoSpace s q
        sure m u v = skipped s (sign c) e (target s c p a m u v)

        ending : (z : ℕ) (t : Tree) → c < most_names → p < e → e - p ≤ longest → seen s q 61 ≡ true → or_of s (any_name s) nesting (q + 1) ≡ got z t → As s z (then (after c nesting 0)) → NoOp s z
            → (l : Bool) → line_ends s z ≡ l → Turn c p
        ending z t m u v w er x no-op true el =
            record {
              z = z;
              what = record { name = p; formula = t };
              few = m;
              is = record { name = refl; some = u; short = omega arith; sign = w; formula = (found-formula s (any_name s) (any_past s) nesting (q + 1) z t er).0; line = el };
              goes = line_on s c z x el;
            }
        ending z t m u v w er x no-op false el = absurd (no_way z (line-none s c z x no-op el) g)

        by : (m : Bool) → leb most_names c ≡ m → (u : Bool) → leb e p ≡ u → (v : Bool) → ltb longest (e - p) ≡ v → (w : Bool) → seen s q 61 ≡ w
            → (r : Res) → or_of s (any_name s) nesting (q + 1) ≡ r → Turn c p
        by true em u eu v ev w ew r er = absurd (no_way p (too_many s c p a h ns nl (leb-true _ _ em)) g)
        by false em true eu v ev w ew r er = absurd (no_way p (no_target s c p a h ns nl (leb-true _ _ eu)) g)
        by false em false eu true ev w ew r er = absurd (no_way (p + longest) (long_target s c p a (leb-false _ _ em) (ltb-true _ _ ev)) g)
        by false em false eu false ev false ew r er =
            let x = sure (leb-false _ _ em) (leb-false _ _ eu) (ltb-false _ _ ev) in absurd (no_way q (sign_none s c q x.0 x.1 ew) g)
        by false em false eu false ev true ew r er =
            formula r er (subst (Fits s c Never (NoOp s) nesting 0) er (any_fits c (q + 1) (sign_on s c q (sure (leb-false _ _ em) (leb-false _ _ eu) (ltb-false _ _ ev)).0 ew)))
          where
            formula : (r : Res) → or_of s (any_name s) nesting (q + 1) ≡ r → Fits s c Never (NoOp s) nesting 0 r → Turn c p
            formula (bad u) er x = absurd (no_way u x g)
            formula (unk u) er x = absurd x
            formula (got z t) er x = ending z t (leb-false _ _ em) (leb-false _ _ eu) (ltb-false _ _ ev) ew er x.0 x.1 (line_ends s z) refl

    rest_from : (f c p : ℕ) → length s - p < f → As s p (fresh c) → Rest c p
    rest_from zero c p m a = absurd (omega arith)
    rest_from (suc f) c p m a = by (leb (length s) q) refl (seen s q 10) refl (rest_from f)
      where
        q : ℕ
        q = skip_of s p

        b : As s q (fresh c) × NoSpace s q
        b = blanks s c p a

        by : (t : Bool) → leb (length s) q ≡ t → (u : Bool) → seen s q 10 ≡ u → ((c p : ℕ) → length s - p < f → As s p (fresh c) → Rest c p) → Rest c p
        by true et u eu ih = let k : skip_of s p ≡ length s = omega (arith, leb-true (length s) q et, b.0.within) in record { reading = []; lines = over k }
        by false et true eu ih =
            let r = ih c (q + 1) (omega (arith, leb-false (length s) q et, past-ge (in_class Blank) s p)) (line-over s c q b.0 eu) in
            record { reading = r.reading; lines = blank eu r.lines }
        by false et false eu ih =
            let x = turn c q b.0 b.1 (leb-false _ _ et) eu in
            put_first c p x (ih (suc c) x.z (omega (arith, leb-false (length s) q et, past-ge (in_class Blank) s p, assigns_ahead s q x.z x.what x.is)) x.goes)

  pub accepted_good : ok (run (fresh 0) s) ≡ true → Good s
  accepted_good e = let r = rest_from (ap ok (trace_all s) ∙ e) (suc (length s)) 0 0 (omega arith) begin in record { reading = r.reading; file = r.lines }
