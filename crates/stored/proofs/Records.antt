-- Laws of `answers` and `records`, for the loops. Assumes nothing.
use Rattle.std.specs.Prelude.{Err}
use Rattle.circuit.specs.Rules.{Answer, done}
use mathlib.Core.Path.{◌≡◌, refl, ap, ◌∙◌, sym}
use mathlib.Core.List.{List, [], ◌∷◌, ◌++◌, append_assoc}
use Prim.Native.Nat.{ℕ, zero, suc, ◌<◌, ◌-◌, ◌+◌, ◌*◌}
use native.Mathlib.Omega.{arith}
use native.Mathlib.Nat.{mul-suc}
use native.Mathlib.Numerals.{add-one}
use lib.ListN.{length, get_or, drop, set, replicate}
use lib.Seq.{drop-drop, get_or-drop, set_at}
use Rattle.circuit.specs.declared.Refusal.{Refusal}
use Rattle.circuit.specs.Rules.{and_then}
use Rattle.stored.specs.Stored.{records}
use Rattle.stored.specs.Reading.{answers}

-- a byte of what is left to read
pub byte_at : (s : List ℕ) (at k : ℕ) → get_or s (at + k) 0 ≡ get_or (drop at s) k 0
byte_at s at k = sym (get_or-drop at s k 0)

module _ (here : ℕ → List ℕ → Answer) (size : ℕ) (s : List ℕ) where
  pub answers_end : (k c at : ℕ) → c ≡ 0 → done ≡ answers here size k c (drop at s)
  unfolding answers
  answers_end k c at e = rw e

  pub answers_step : (k c at c' : ℕ) → c ≡ suc c'
      → answers here size k c (drop at s) ≡ and_then (here k (drop at s)) (answers here size (k + 1) c' (drop (at + size) s))
  unfolding answers
  answers_step k c at c' e = rw (e, ← add-one, drop-drop)

  pub answers_stop : (k c at : ℕ) (w : Refusal) → 0 < c → here k (drop at s) ≡ Err w → Err w ≡ answers here size k c (drop at s)
  answers_stop k c at w h r =
      let e : c ≡ suc (c - 1) = omega arith in
      sym (answers_step k c at (c - 1) e ∙ ap (λ (x : Answer). and_then x (answers here size (k + 1) (c - 1) (drop (at + size) s))) r)

  pub answers_next : (k c at k' c' at' : ℕ) → c ≡ suc c' → k' ≡ k + 1 → at' ≡ at + size → here k (drop at s) ≡ done
      → answers here size k' c' (drop at' s) ≡ answers here size k c (drop at s)
  answers_next k c at k' c' at' e f g r =
      (λ i. answers here size (f i) c' (drop (g i) s))
      ∙ sym (answers_step k c at c' e ∙ ap (λ (x : Answer). and_then x (answers here size (k + 1) c' (drop (at + size) s))) r)

module _ {A : Type 0} (here : List ℕ → A) (size : ℕ) where
  pub records_length : (j : ℕ) (s : List ℕ) → length (records here size j s) ≡ j
  unfolding records
  records_length zero s = refl
  records_length (suc j) s = ap suc (records_length j (drop size s))

  pub records_snoc : (j : ℕ) (s : List ℕ) → records here size (suc j) s ≡ records here size j s ++ (here (drop (size * j) s) ∷ [])
  unfolding records
  records_snoc zero s = let e : size * 0 ≡ 0 = omega arith in rw e
  records_snoc (suc j) s =
      let e : size + size * j ≡ size * suc j = sym (mul-suc size j ∙ omega arith) in
      ap (λ (l : List A). here s ∷ l) (records_snoc j (drop size s)
      ∙ ap (λ (l : List ℕ). records here size j (drop size s) ++ (here l ∷ [])) (drop-drop (size * j) size s ∙ ap (λ (x : ℕ). drop x s) e))

  -- one record more in an array
  pub records_put : (s : List ℕ) (base j cap at : ℕ) (v d : A) → j < cap → at ≡ base + size * j → v ≡ here (drop at s)
      → set (records here size j (drop base s) ++ replicate (cap - j) d) j v ≡ records here size (j + 1) (drop base s) ++ replicate (cap - (j + 1)) d
  records_put s base j cap at v d h p q =
      let R = records here size j (drop base s) in
      let e : cap - j ≡ suc (cap - (j + 1)) = omega arith in
      let w : v ≡ here (drop (size * j) (drop base s)) =
      q ∙ ap here (ap (λ (x : ℕ). drop x s) p ∙ sym (drop-drop (size * j) base s)) in
      ap (λ (x : ℕ). set (R ++ replicate x d) j v) e
      ∙ set_at R d (replicate (cap - (j + 1)) d) v j (records_length j (drop base s))
      ∙ sym (append_assoc R (v ∷ []) (replicate (cap - (j + 1)) d))
      ∙ ap (λ (l : List A). l ++ replicate (cap - (j + 1)) d)
      (ap (λ (x : A). R ++ (x ∷ [])) w ∙ sym (records_snoc j (drop base s)) ∙ ap (λ (x : ℕ). records here size x (drop base s)) (sym (add-one j)))

  pub records_none : (s : List ℕ) (cap : ℕ) (d : A) → replicate cap d ≡ records here size 0 s ++ replicate (cap - 0) d
  unfolding records
  records_none s cap d = let e : cap ≡ cap - 0 = omega arith in ap (λ (x : ℕ). replicate x d) e
