-- Along a file the table has the names that were set, and no name before is at fault.
use Rattle.std.specs.Prelude.{Option, Some, None, Result, Ok, Err}
use mathlib.Core.Path.{◌≡◌, refl, sym, ap, subst, ◌∙◌}
use mathlib.Core.Bool.{Bool, true, false, cond}
use mathlib.Core.Logic.{◌⊎◌, inl, inr, ⊎_elim}
use mathlib.Core.List.{List}
use Prim.Native.Nat.{ℕ, suc, ◌+◌, ◌-◌, ◌≤◌, ◌<◌}
use native.Mathlib.Omega.{arith}
use borrow.Author.Tests.{lt-ltb, ltb-true, ltb-false, leb-false, eqb-true, eq-eqb, ne_eqb}
use lib.Dec.{leb, ltb, eqb}
use lib.ListN.{length, get_or}
use Rattle.formula.specs.Sizes.{most_names, longest, nesting}
use Rattle.formula.specs.Text.{seen, is_letter, in_class, skip_of, word_end}
use Rattle.formula.specs.Tree.{Res, got, bad, unk}
use Rattle.formula.specs.Emit.{Out, read_at, gates_of, line_of, failed, emitted}
use Rattle.formula.specs.Names.{is_line, look_up, name_by}
use Rattle.formula.specs.Levels.{or_of}
use Rattle.formula.specs.declared.Class.TheVariants.{Blank, Letter}
use Rattle.formula.specs.declared.Gates.{Gates}
use Rattle.formula.proofs.Laws.{past-ge, past_miss}
use Rattle.grammar.specs.File.{line_ends, sign_after}
use Rattle.grammar.proofs.Bytes.{seen_is, byte_seen}
use Rattle.sheet.specs.declared.Book.{Book}
use Rattle.formula.specs.declared.Why.{Why}
use Rattle.formula.specs.declared.Why.TheVariants.{Text, Name}
use Rattle.sheet.specs.Sheet.{no_book, line_ended, targeted, assigning, assign_at, file_of}
use Rattle.sheet.proofs.Shape.{Made, made_fwd}
use Rattle.known.specs.Known.{Word, line_start, is_target, Fault}
use Rattle.known.proofs.Words.{clash, Fresh, fresh_past, line_same, line_next, line_fresh, word_is}
use Rattle.known.proofs.Passing.{blank_between, sign_between, Passed, Missed, seen_fresh, passed_on, passed_as, passed_byte, passed_run, passed_name, passed_long, Is, IsNot, Names, formula_names}
use Rattle.known.proofs.Table.{Table, look_up_in, look_known, known_look, table_none, table_on, table_set}
use Rattle.known.proofs.Along.{made_book, Starts, file_by}

-- no name before p is at fault
abbrev pub Clean : List ℕ → ℕ → Type 0
Clean s p = (a : ℕ) → Word s a → a < p → Fault s a → ⊥

-- the first name at fault ends with the byte at e
pub record FirstFault (s : List ℕ) (e : ℕ) : Type 0 where
  pub at : ℕ
  pub fault : Fault s at
  pub ends : word_end s at ≡ suc e
  pub clean : Clean s at

-- the name at a is not at fault
abbrev Free : List ℕ → ℕ → Type 0
Free s a = Fault s a → ⊥

clean_on : (s : List ℕ) (p u : ℕ) → Clean s p → ((a : ℕ) → Word s a → p ≤ a → a < u → Free s a) → Clean s u
clean_on s p u c x a w h = by (ltb a p) refl
  where
    by : (t : Bool) → ltb a p ≡ t → Fault s a → ⊥
    by true e = c a w (ltb-true _ _ e)
    by false e = x a w (ltb-false _ _ e) h

-- what a refusal says of the names
abbrev pub Refused : List ℕ → Why → Type 0
Refused s (Text u) = Clean s u
Refused s (Name e) = FirstFault s e

-- what a step says of them: nothing, where it goes on
abbrev Says : List ℕ → Out → Type 0
Says s (Ok x) = Unit {0}
Says s (Err w) = Refused s w

-- ---- a line that begins at p, over a table of the lines before it

module _ (s : List ℕ) (p : ℕ) (b : Book) (t : Table s p b) (c : Clean s p) (ls : line_start s p ≡ p) where
  -- where its name is to stand, and what is known of names
  abbrev q : ℕ
  q = skip_of s p

  abbrev look : ℕ → ℕ → Option ℕ
  look = look_up s b.names.low b.names.high b.names.lines b.names.n

  blanks : (K : ℕ → Type 0) → Passed s K p q
  blanks K = passed_run s K (in_class Blank) blank_between p

  in_line : (K : ℕ → Type 0) (a u : ℕ) → Passed s K p u → p ≤ a → a ≤ u → line_start s a ≡ p
  in_line K a u d h k = line_same s p a h (λ i l r. d.line i l (omega arith)) ∙ ls

  name_line : line_start s q ≡ p
  name_line = in_line (Free s) q q (blanks (Free s)) (past-ge (in_class Blank) s p) (omega arith)

  name_target : is_target s q ≡ true
  unfolding is_target
  name_target = rw name_line (eq-eqb q q refl)

  name_fresh : Fresh s q
  name_fresh = fresh_past s (in_class Blank) (λ b e. (blank_between b e).no_letter) p (line_fresh s p ls)

  -- a name after it is no target
  no_target : (a : ℕ) → q < a → line_start s a ≡ p → is_target s a ≡ false
  unfolding is_target
  no_target a h e = rw e (ne_eqb q a (λ z. omega arith))

  -- it is known already
  target_fault : Word s q → is_line (look_up_in s b q) ≡ true → Fault s q
  target_fault w e = record { word = w; wrong = inl (name_target, look_known s p b t q w.short name_line e) }

  -- or new
  module _ (w : Word s q) (new : is_line (look_up_in s b q) ≡ false) where
    target_free : Free s q
    target_free f =
        ⊎_elim (λ x. clash (is_line (look_up_in s b q)) (known_look s p b t q w.short name_line x.1) new) (λ x. clash (is_target s q) name_target x.0) f.wrong

    operand_free : (a : ℕ) → Word s a → q < a → line_start s a ≡ p → is_line (look_up_in s b a) ≡ true → Free s a
    operand_free a v h l e f =
        ⊎_elim (λ x. clash (is_target s a) x.0 (no_target a h l)) (λ x. x.1 (look_known s p b t a v.short l e)) f.wrong

    operand_fault : (a : ℕ) → Word s a → q < a → line_start s a ≡ p → is_line (look_up_in s b a) ≡ false → Fault s a
    operand_fault a v h l e = record { word = v; wrong = inr (no_target a h l, λ k. clash (is_line (look_up_in s b a)) (known_look s p b t a v.short l k) e) }

    -- a name of the line is the new one, or one that is found after it
    abbrev Fine : ℕ → Type 0
    Fine a = (a ≡ q) ⊎ ((q < a) × Is s look a)

    fine_clean : (u : ℕ) → Passed s Fine p u → Clean s u
    fine_clean u x =
        clean_on s p u c (λ a v h k. ⊎_elim (λ z. subst (Free s) (sym z) target_free) (λ y. operand_free a v y.0 (in_line Fine a u x h (omega arith)) y.1) (x.names a v h k))

    fine_only : (u : ℕ) → Passed s Fine p u → (a : ℕ) → Word s a → is_target s a ≡ true → p ≤ a → a < u → a ≡ q
    fine_only u x a v e h k = ⊎_elim (λ z. z) (λ y. absurd (clash (is_target s a) e (no_target a y.0 (in_line Fine a u x h (omega arith))))) (x.names a v h k)

    up_to_sign : Passed s Fine p (sign_after s q)
    up_to_sign = passed_on s Fine p (word_end s q) (sign_after s q) (passed_on s Fine p q (word_end s q) (blanks Fine) (passed_name s Fine q (inl refl))) (passed_run s Fine (in_class Blank) blank_between (word_end s q))

    -- the formula
    module _ (sign : seen s (sign_after s q) 61 ≡ true) where
      abbrev k : ℕ
      k = sign_after s q + 1

      up_to-formula : Passed s Fine p k
      up_to-formula = passed_on s Fine p (sign_after s q) k up_to_sign (passed_byte s Fine (sign_after s q) 61 sign_between sign)

      found_fine : (u : ℕ) → Passed s (Is s look) k u → Passed s Fine p u
      found_fine u x =
          passed_on s Fine p k u up_to-formula
          (passed_as s (Is s look) Fine k u x (λ a v h r e. inr (omega (arith, past-ge (in_class Letter) s q, past-ge (in_class Blank) s (word_end s q)), e)))

      missed_first : (e : ℕ) → Missed s (Is s look) (IsNot s look) k e → FirstFault s e
      missed_first e m =
          let x = found_fine m.at m.before in
          let h : q < m.at = omega (arith, m.from, past-ge (in_class Letter) s q, past-ge (in_class Blank) s (word_end s q)) in
          record { at = m.at; fault = operand_fault m.at m.word h (in_line Fine m.at m.at x x.order (omega arith)) m.none; ends = m.ends; clean = fine_clean m.at x }

      formula_passed : Names s look k (or_of s (name_by s look) nesting k)
      formula_passed = formula_names s look nesting k (seen_fresh s (sign_after s q) 61 sign_between sign)

      line-says : (g : Gates) (r : Res) → Names s look k r → Says s (line_ended s (emitted g r)).out
      unfolding line_ended
      line-says g (bad u) x = fine_clean u (found_fine u x)
      line-says g (unk e) x = missed_first e x
      line-says g (got z r) x = by (line_ends s z)
        where
          by : (v : Bool) → Says s (cond v (read_at (gates_of r g) (Ok (z, line_of r g))) (failed (Text z))).out
          by true = tt
          by false = fine_clean z (found_fine z x)

  -- what a refusal of the line's assignment says
  assign_says : Says s (assign_at s q b).out
  unfolding assigning
  assign_says = by (leb most_names b.names.n) (leb e q) refl (ltb longest (e - q)) refl (look q e) refl (seen s (sign_after s q) 61) refl
    where
      e : ℕ
      e = word_end s q

      before : Clean s q
      before = clean_on s p q c (blanks (Free s)).names

      word : leb e q ≡ false → ltb longest (e - q) ≡ false → Word s q
      word eu ev = word_is s q name_fresh (leb-false _ _ eu) (omega (arith, ltb-false longest (e - q) ev))

      by : (m u : Bool) → leb e q ≡ u → (v : Bool) → ltb longest (e - q) ≡ v → (f : Option ℕ) → look q e ≡ f → (x : Bool) → seen s (sign_after s q) 61 ≡ x
          → Says s (cond m (failed (Text q)) (cond u (failed (Text q)) (cond v (failed (Text (q + longest))) (targeted s (name_by s look) q b.gates f)))).out
      by true u eu v ev f ef x ex = before
      by false true eu v ev f ef x ex = before
      by false false eu true ev f ef x ex = clean_on s q (q + longest) before (passed_long s (Free s) q (ltb-true _ _ ev)).names
      by false false eu false ev (Some y) ef x ex =
          record { at = q; fault = target_fault (word eu ev) (ap is_line ef); ends = omega (arith, leb-false e q eu); clean = before }
      by false false eu false ev None ef false ex = rw ex (fine_clean (word eu ev) (ap is_line ef) (sign_after s q) (up_to_sign (word eu ev) (ap is_line ef)))
      by false false eu false ev None ef true ex =
          let w = word eu ev in
          let n = ap is_line ef in
          rw ex (line-says w n ex b.gates (or_of s (name_by s look) nesting (sign_after s q + 1)) (formula_passed w n ex))

  -- and what one that was read leaves
  module _ (z : ℕ) (m : Made s q z b) where
    made_word : Word s q
    made_word = word_is s q name_fresh m.some (omega (arith, m.short, m.some))

    made_new : is_line (look_up_in s b q) ≡ false
    made_new = ap is_line m.new

    made_fine : Passed s (Fine made_word made_new) p z
    made_fine = found_fine made_word made_new m.sign z (subst (Names s look (sign_after s q + 1)) m.read (formula_passed made_word made_new m.sign))

    made_clean : Clean s z
    made_clean = fine_clean made_word made_new z made_fine

    made_table : Table s z (made_book s q z b m)
    made_table =
        table_set s p q z b (gates_of m.tree b.gates) (line_of m.tree b.gates) t m.room (past-ge (in_class Blank) s p) made_word name_target m.new (made_fwd s q z b m)
        (fine_only made_word made_new z made_fine)

-- ---- along the file

-- before what is still to be read: a line begins or ends at p, the book has the names of the lines before, and they are not at fault
pub record Before (s : List ℕ) (p : ℕ) (b : Book) : Type 0 where
  pub line : (line_start s p ≡ p) ⊎ (line_ends s p ≡ true)
  pub table : Table s p b
  pub clean : Clean s p

module _ (s : List ℕ) where
  -- a line that has an assignment begins where it is read from
  line_begins : (p : ℕ) (b : Book) → Before s p b → Starts s (skip_of s p) → line_start s p ≡ p
  unfolding line_ends in_class
  line_begins p b x st = ⊎_elim (λ e. e) (λ e. absurd (ended e)) x.line
    where
      ended : line_ends s p ≡ true → ⊥
      ended e =
          let h : p < length s = omega (arith, past-ge (in_class Blank) s p, st.within) in
          let k : eqb (get_or s p 0) 10 ≡ true = rw (lt-ltb _ _ h) at e in
          let z : skip_of s p ≡ p = past_miss (in_class Blank) s p h (rw (eqb-true (get_or s p 0) 10 k)) in
          clash (seen s p 10) (byte_seen s p 10 true h k) (subst (λ (i : ℕ). seen s i 10 ≡ false) z st.no_line)

  -- from p to u no name begins
  abbrev Nameless : ℕ → ℕ → Type 0
  Nameless p u = (a : ℕ) → Word s a → p ≤ a → a < u → ⊥

  spaces_nameless : (p : ℕ) → Nameless p (skip_of s p)
  spaces_nameless p = (passed_run s (λ a. ⊥) (in_class Blank) blank_between p).names

  blank_nameless : (p : ℕ) → seen s (skip_of s p) 10 ≡ true → Nameless p (skip_of s p + 1)
  unfolding in_class is_letter
  blank_nameless p e a w h k = by (ltb a (skip_of s p)) refl
    where
      by : (t : Bool) → ltb a (skip_of s p) ≡ t → ⊥
      by true u = spaces_nameless p a w h (ltb-true _ _ u)
      by false u =
          let z : a ≡ skip_of s p = omega (arith, ltb-false a (skip_of s p) u) in
          clash (in_class Letter (get_or s a 0)) w.here (ap (λ (i : ℕ). in_class Letter (get_or s i 0)) z ∙ ap (in_class Letter) (seen_is s (skip_of s p) 10 e))

  pub before_none : Before s 0 no_book
  unfolding line_start
  before_none = record { line = inl refl; table = table_none s; clean = λ a w h. absurd (omega arith) }

  pub before_blank : (p : ℕ) (b : Book) → Before s p b → seen s (skip_of s p) 10 ≡ true → Before s (skip_of s p + 1) b
  before_blank p b x e =
      let n = blank_nameless p e in
      record { line = inl (line_next s (skip_of s p) e); table = table_on s p (skip_of s p + 1) b (omega (arith, past-ge (in_class Blank) s p)) n x.table; clean = clean_on s p (skip_of s p + 1) x.clean (λ a w h k. absurd (n a w h k)) }

  pub before_made : (p z : ℕ) (b : Book) → Before s p b → Starts s (skip_of s p) → (m : Made s (skip_of s p) z b) → Before s z (made_book s (skip_of s p) z b m)
  before_made p z b x st m =
      let l = line_begins p b x st in
      record { line = inr m.ended; table = made_table s p b x.table x.clean l z m; clean = made_clean s p b x.table x.clean l z m }

  -- what the reader says of the names of a file: a book that it read has all of them
  abbrev pub Ends : Book → Result ℕ Why → Type 0
  Ends b (Ok q) = (length s ≤ q) × Table s q b × Clean s q
  Ends b (Err w) = Refused s w

  pub file_ends : Ends (file_of s).book (file_of s).step
  file_ends =
      file_by s (Before s) (λ l. Ends l.book l.step) over before_blank before_made
      (λ p b w x st e. subst (Says s) e (assign_says s p b x.table x.clean (line_begins p b x st))) before_none
    where
      over : (p : ℕ) (b : Book) → Before s p b → length s ≤ skip_of s p → Ends b (Ok (skip_of s p))
      over p b x h = (h, table_on s p (skip_of s p) b (past-ge (in_class Blank) s p) (spaces_nameless p) x.table, clean_on s p (skip_of s p) x.clean (λ a w h k. absurd (spaces_nameless p a w h k)))
