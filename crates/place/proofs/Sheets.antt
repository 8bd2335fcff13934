-- The reader of a file and the automaton agree.
use Rattle.std.specs.Prelude.{Option, Some, None, Result, Ok, Err}
use mathlib.Core.Path.{◌≡◌, refl, subst}
use mathlib.Core.Bool.{Bool, true, false, cond}
use mathlib.Core.List.{List}
use Prim.Native.Nat.{ℕ, zero, suc, ◌+◌, ◌-◌, ◌<◌}
use native.Mathlib.Omega.{arith}
use borrow.Author.Tests.{ltb-true, ltb-false, leb-true, leb-false}
use lib.Dec.{leb, ltb, eqb}
use lib.ListN.{length, get_or}
use Rattle.formula.specs.Sizes.{most_names, longest, nesting}
use Rattle.formula.specs.Text.{seen, in_class, skip_of, word_end}
use Rattle.formula.specs.Tree.{Res, got, bad, unk}
use Rattle.formula.specs.Names.{no_names, look_up, name_by}
use Rattle.formula.specs.Levels.{or_of}
use Rattle.formula.specs.Emit.{Out, read_at, gates_of, line_of, failed, emitted}
use Rattle.formula.specs.declared.Class.TheVariants.{Blank, Letter}
use Rattle.formula.specs.declared.Gates.{Gates}
use Rattle.formula.specs.declared.Names.{Names}
use Rattle.formula.proofs.Laws.{past-ge, past_in}
use Rattle.formula.proofs.Reading.{Past, name_past, or-past}
use Rattle.grammar.specs.File.{line_ends, sign_after}
use Rattle.grammar.proofs.Bytes.{byte_seen}
use Rattle.sheet.specs.declared.Book.{Book}
use Rattle.formula.specs.declared.Why.{Why}
use Rattle.formula.specs.declared.Why.TheVariants.{Text, Name}
use Rattle.sheet.specs.Sheet.{no_book, line_ended, set_name, targeted, assigning, assign_at, onward, filed, file_of}
use Rattle.place.proofs.Automaton.{sign, fresh, want, then, ok, live, trace}
use Rattle.place.proofs.Walk.{As, Stuck}
use Rattle.place.proofs.Levels.{NoSpace, NoOp, Plain, Fits, name_fits, skipped, formula_fits}
use Rattle.place.proofs.Parts.{blanks, line-over, target, long_target, too_many, no_target, sign_on, sign_none, line_on, line-none}
use Rattle.place.proofs.Accepted.{begin}

module _ (s : List ℕ) where
  -- the byte at q, the last of a name, was read on the way of some good text
  abbrev Alive : ℕ → Type 0
  Alive q = (live (trace s (q + 1)) ≡ true) × (q < length s)

  abbrev Refused : Why → Type 0
  Refused (Text q) = Stuck s q
  Refused (Name q) = Alive q

  -- what the reader says of the whole file
  abbrev pub Says : Result ℕ Why → Type 0
  Says (Ok q) = ok (trace s (length s)) ≡ true
  Says (Err w) = Refused w

  -- what it says of the assignment at p, after n of them
  abbrev Goes : ℕ → ℕ → Out → Type 0
  Goes n p (Ok x) = As s x.0 (fresh (suc n)) × (p < x.0)
  Goes n p (Err w) = Refused w

  last_alive : (p : ℕ) → p < word_end s p → live (trace s (word_end s p)) ≡ true → Alive (word_end s p - 1)
  last_alive p h l = let z : word_end s p ≡ word_end s p - 1 + 1 = omega arith in (subst (λ (i : ℕ). live (trace s i) ≡ true) z l, omega (arith, past_in (in_class Letter) s p (word_end s p) refl h))

  names_fit : (known : ℕ → ℕ → Option ℕ) (c d o p : ℕ) → As s p (want c d o) → Plain s p → Fits s c Alive (NoSpace s) d o (name_by s known p)
  names_fit known c d o p a w = name_fits s c Alive known d o p (λ e. last_alive p) a w

  line_fits : (n p q : ℕ) (g : Gates) (r : Res) → p < q → Past q r → Fits s n Alive (NoOp s) nesting 0 r → Goes n p (line_ended s (emitted g r)).out
  unfolding line_ended
  line_fits n p q g (bad u) h m x = x
  line_fits n p q g (unk u) h m x = x
  line_fits n p q g (got z t) h m x = by (line_ends s z) refl
    where
      by : (w : Bool) → line_ends s z ≡ w → Goes n p (cond w (read_at (gates_of t g) (Ok (z, line_of t g))) (failed (Text z))).out
      by true e = (line_on s n z x.0 e, omega arith)
      by false e = line-none s n z x.0 x.1 e

  assign_fits : (t : Names) (p : ℕ) (g : Gates) → As s p (fresh t.n) → NoSpace s p → p < length s → seen s p 10 ≡ false → Goes t.n p (assigning s t p g).out
  unfolding assigning
  assign_fits t p g a ns h nl =
      by (leb most_names t.n) refl (leb e p) refl (ltb longest (e - p)) refl (known p e) (seen s q 61) refl
    where
      known : ℕ → ℕ → Option ℕ
      known = look_up s t.low t.high t.lines t.n

      e : ℕ
      e = word_end s p

      q : ℕ
      q = sign_after s p

      after_name : leb most_names t.n ≡ false → leb e p ≡ false → ltb longest (e - p) ≡ false → As s e (then (sign t.n))
      after_name et eu ev = target s t.n p a (leb-false _ _ et) (leb-false _ _ eu) (ltb-false _ _ ev)

      by : (m : Bool) → leb most_names t.n ≡ m → (u : Bool) → leb e p ≡ u → (v : Bool) → ltb longest (e - p) ≡ v → (f : Option ℕ) (w : Bool) → seen s q 61 ≡ w
          → Goes t.n p (cond m (failed (Text p)) (cond u (failed (Text p)) (cond v (failed (Text (p + longest))) (targeted s (name_by s known) p g f)))).out
      by true et u eu v ev f w ew = too_many s t.n p a h ns nl (leb-true _ _ et)
      by false et true eu v ev f w ew = no_target s t.n p a h ns nl (leb-true _ _ eu)
      by false et false eu true ev f w ew = long_target s t.n p a (leb-false _ _ et) (ltb-true _ _ ev)
      by false et false eu false ev (Some x) w ew = last_alive p (leb-false _ _ eu) (after_name et eu ev).alive
      by false et false eu false ev None false ew =
          let x = skipped s (sign t.n) e (after_name et eu ev) in
          rw ew (sign_none s t.n q x.0 x.1 ew)
      by false et false eu false ev None true ew =
          let x = skipped s (sign t.n) e (after_name et eu ev) in
          let nm = name_by s known in
          rw ew (line_fits t.n p (q + 1) g (or_of s nm nesting (q + 1)) (omega (arith, leb-false e p eu, past-ge (in_class Blank) s e)) (or-past s nm (name_past s known) nesting (q + 1))
          (formula_fits s t.n Alive nm (name_past s known) (names_fit known t.n) nesting 0 (q + 1) (sign_on s t.n q x.0 ew)))

  filed_fits : (f p : ℕ) (b : Book) → length s - p < f → As s p (fresh b.names.n) → Says (filed s f p b).step
  unfolding filed
  filed_fits zero p b m a = absurd (omega arith)
  filed_fits (suc f) p b m a = by (leb (length s) q) refl (eqb (get_or s q 0) 10) refl (filed_fits f)
    where
      q : ℕ
      q = skip_of s p

      x : As s q (fresh b.names.n) × NoSpace s q
      x = blanks s b.names.n p a

      on : ((p : ℕ) (b : Book) → length s - p < f → As s p (fresh b.names.n) → Says (filed s f p b).step) → q < length s → (g : Gates) (w : Out) → Goes b.names.n q w
          → Says (onward (λ z c. filed s f z c) s q b g w).step
      on ih h g (Ok x) y =
          let k : suc b.names.n ≡ b.names.n + 1 = omega arith in
          ih x.0 (set_name s b g q x.1) (omega (arith, past-ge (in_class Blank) s p, y.1)) (subst (λ (c : ℕ). As s x.0 (fresh c)) k y.0)
      on ih h g (Err w) y = y

      by : (t : Bool) → leb (length s) q ≡ t → (u : Bool) → eqb (get_or s q 0) 10 ≡ u → ((p : ℕ) (b : Book) → length s - p < f → As s p (fresh b.names.n) → Says (filed s f p b).step)
          → Says (cond t (record { book = b; step = Ok q }) (cond u (filed s f (q + 1) b) (onward (λ z c. filed s f z c) s q b (assign_at s q b).gates (assign_at s q b).out))).step
      by true et u eu ih = let k : q ≡ length s = omega (arith, leb-true (length s) q et, x.0.within) in subst (λ (i : ℕ). ok (trace s i) ≡ true) k x.0.same
      by false et true eu ih =
          let h = leb-false (length s) q et in
          ih (q + 1) b (omega (arith, h, past-ge (in_class Blank) s p)) (line-over s b.names.n q x.0 (byte_seen s q 10 true h eu))
      by false et false eu ih =
          let h = leb-false (length s) q et in
          on ih h (assign_at s q b).gates (assign_at s q b).out (assign_fits b.names q b.gates x.0 x.1 h (byte_seen s q 10 false h eu))

  pub file-says : Says (file_of s).step
  unfolding no_book no_names
  file-says = filed_fits (suc (length s)) 0 no_book (omega arith) (begin s)
