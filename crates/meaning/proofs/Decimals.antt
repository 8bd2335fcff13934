-- Two names of one output are the same name: a decimal number with no zero first is written in one way.
use mathlib.Core.Path.{◌≡◌, refl, sym, ap, subst, ◌∙◌}
use mathlib.Core.Bool.{Bool, true, false, true≢false, cond}
use mathlib.Core.Logic.{⊎_elim}
use mathlib.Core.List.{List}
use Prim.Native.Nat.{ℕ, zero, suc, ◌+◌, ◌-◌, ◌*◌, ◌≤◌, ◌<◌}
use native.Mathlib.Nat.{add-zero}
use native.Mathlib.Omega.{arith}
use borrow.Author.Tests.{ltb-false, leb-false, eq-eqb, lt-ltb}
use lib.Dec.{leb, ltb}
use lib.ListN.{length, get_or}
use Rattle.circuit.proofs.LineLaws.{place}
use Rattle.formula.specs.Sizes.{longest}
use Rattle.formula.specs.Text.{seen, in_class, word_end}
use Rattle.formula.specs.declared.Class.TheVariants.{Letter}
use Rattle.formula.proofs.Laws.{past_in}
use Rattle.grammar.proofs.Bytes.{seen_is, byte_seen}
use Rattle.drawing.specs.Outputs.{digits_from, zero_first, output_no}
use Rattle.known.proofs.Keys.{Agree, Alike}

-- a digit stands at i, and the others from there on write j
record Digit (s : List ℕ) (f i v j : ℕ) : Type 0 where
  least : 48 ≤ get_or s i 0
  most : get_or s i 0 ≤ 57
  rest : digits_from s f (i + 1) (v * 10 + (get_or s i 0 - 48)) ≡ suc j

module _ (s : List ℕ) where
  -- the first, and those after it
  agree_on : (f a b : ℕ) → get_or s a 0 ≡ get_or s b 0 → Agree s f (a + 1) (b + 1) → Agree s (suc f) a b
  agree_on f a b e r zero h = ap (λ (i : ℕ). get_or s i 0) (add-zero a) ∙ e ∙ ap (λ (i : ℕ). get_or s i 0) (sym (add-zero b))
  agree_on f a b e r (suc k) h =
      let y : a + suc k ≡ a + 1 + k = omega arith in
      let z : b + suc k ≡ b + 1 + k = omega arith in
      ap (λ (i : ℕ). get_or s i 0) y ∙ r k (omega arith) ∙ ap (λ (i : ℕ). get_or s i 0) (sym z)

  digit : (f i v j : ℕ) → digits_from s (suc f) i v ≡ suc j → Digit s f i v j
  unfolding digits_from
  digit f i v j e = by (ltb (get_or s i 0) 48) refl (ltb 57 (get_or s i 0)) refl e
    where
      by : (t : Bool) → ltb (get_or s i 0) 48 ≡ t → (u : Bool) → ltb 57 (get_or s i 0) ≡ u → cond t 0 (cond u 0 (digits_from s f (i + 1) (v * 10 + (get_or s i 0 - 48)))) ≡ suc j → Digit s f i v j
      by true et u eu e = absurd (omega arith)
      by false et true eu e = absurd (omega arith)
      by false et false eu e = record { least = ltb-false _ _ et; most = ltb-false _ _ eu; rest = e }

  -- as many digits that write one number are the same
  digits_same : (f a b v w j : ℕ) → digits_from s f a v ≡ suc j → digits_from s f b w ≡ suc j → (v ≡ w) × Agree s f a b
  unfolding digits_from
  digits_same zero a b v w j e d = (omega arith, λ k h. absurd (omega arith))
  digits_same (suc f) a b v w j e d =
      let x = digit f a v j e in
      let y = digit f b w j d in
      let r = digits_same f (a + 1) (b + 1) _ _ j x.rest y.rest in
      let here : get_or s a 0 ≡ get_or s b 0 = omega (arith, r.0, x.least, x.most, y.least, y.most) in
      (omega (arith, r.0, x.least, x.most, y.least, y.most), agree_on f a b here r.1)

  -- the last f of g and f digits, after the number w
  record Tail (f i v j : ℕ) : Type 0 where
    at : ℕ
    before : ℕ
    writes : digits_from s f at before ≡ suc j
    grows : v ≤ before

  tail : (g f i v j : ℕ) → digits_from s (g + f) i v ≡ suc j → Tail f i v j
  tail zero f i v j e = let z : 0 + f ≡ f = omega arith in record { at = i; before = v; writes = ap (λ (n : ℕ). digits_from s n i v) (sym z) ∙ e; grows = omega arith }
  tail (suc g) f i v j e =
      let z : suc g + f ≡ suc (g + f) = omega arith in
      let x = digit (g + f) i v j (ap (λ (n : ℕ). digits_from s n i v) (sym z) ∙ e) in
      let r = tail g f (i + 1) _ j x.rest in
      record { at = r.at; before = r.before; writes = r.writes; grows = omega (arith, r.grows) }

  -- ---- names

  -- the name at p is output j
  record Output (p j : ℕ) : Type 0 where
    letter : get_or s p 0 ≡ 121
    some : p + 1 < word_end s p
    number : digits_from s (word_end s p - (p + 1)) (p + 1) 0 ≡ suc j
    first : 1 < word_end s p - (p + 1) → get_or s (p + 1) 0 ≡ 48 → ⊥

  zero-none : (p : ℕ) → p + 1 < word_end s p → zero_first s (p + 1) (word_end s p) ≡ false → 1 < word_end s p - (p + 1) → get_or s (p + 1) 0 ≡ 48 → ⊥
  unfolding zero_first
  zero-none p h e l k =
      let w : p + 1 < length s = omega (arith, past_in (in_class Letter) s p (word_end s p) refl (omega arith)) in
      let t = byte_seen s (p + 1) 48 true w (eq-eqb _ _ k) in
      true≢false (sym t ∙ (rw (lt-ltb 1 (word_end s p - (p + 1)) l) at e))

  output : (p j : ℕ) → output_no s p ≡ suc j → Output p j
  unfolding output_no
  output p j e = by (seen s p 121) refl (leb (word_end s p - p) 1) refl (ltb longest (word_end s p - p)) (zero_first s (p + 1) (word_end s p)) refl e
    where
      by : (a : Bool) → seen s p 121 ≡ a → (b : Bool) → leb (word_end s p - p) 1 ≡ b → (c d : Bool) → zero_first s (p + 1) (word_end s p) ≡ d
          → cond a (cond b 0 (cond c 0 (cond d 0 (digits_from s (word_end s p - (p + 1)) (p + 1) 0)))) 0 ≡ suc j → Output p j
      by true ea false eb false false ed e =
          let h : p + 1 < word_end s p = omega (arith, leb-false (word_end s p - p) 1 eb) in
          record { letter = seen_is s p 121 ea; some = h; number = e; first = zero-none p h ed }
      by true ea false eb false true ed e = absurd (omega arith)
      by true ea false eb true d ed e = absurd (omega arith)
      by true ea true eb c d ed e = absurd (omega arith)
      by false ea b eb c d ed e = absurd (omega arith)

  -- no fewer digits write the same number
  shorter : (p q j : ℕ) → Output p j → Output q j → word_end s p - (p + 1) < word_end s q - (q + 1) → ⊥
  shorter p q j x y h =
      let f = word_end s p - (p + 1) in
      let g = word_end s q - (q + 1) - f - 1 in
      let z : word_end s q - (q + 1) ≡ suc (g + f) = omega arith in
      let d = digit (g + f) (q + 1) 0 j (ap (λ (n : ℕ). digits_from s n (q + 1) 0) (sym z) ∙ y.number) in
      let r = tail g f (q + 1 + 1) _ j d.rest in
      let e = digits_same f (p + 1) r.at 0 r.before j x.number r.writes in
      y.first (omega (arith, x.some)) (omega (arith, e.0, r.grows, d.least))

  -- two names of one output have as many bytes, and the same ones
  pub output_alike : (p q j : ℕ) → output_no s p ≡ suc j → output_no s q ≡ suc j → Alike s p q
  output_alike p q j e f =
      let x = output p j e in
      let y = output q j f in
      ⊎_elim (λ l. absurd (shorter p q j x y l)) (⊎_elim (by x y) (λ l. absurd (shorter q p j y x l))) (place (word_end s p - (p + 1)) (word_end s q - (q + 1)))
    where
      by : Output p j → Output q j → word_end s p - (p + 1) ≡ word_end s q - (q + 1) → Alike s p q
      by x y z =
          let n = word_end s p - (p + 1) in
          let d = digits_same n (p + 1) (q + 1) 0 0 j x.number (ap (λ (n : ℕ). digits_from s n (q + 1) 0) z ∙ y.number) in
          let m : suc n ≡ word_end s p - p = omega (arith, x.some) in
          record { size = omega (arith, x.some, y.some); bytes = subst (λ (n : ℕ). Agree s n p q) m (agree_on n p q (x.letter ∙ sym y.letter) d.1) }
