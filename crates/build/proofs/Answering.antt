-- What is answered on each way through the program; and that an input longer than the program reads is refused by its length. Assumes nothing.
use Rattle.std.specs.Prelude.{Result, Ok, Err}
use mathlib.Core.Path.{◌≡◌, refl, ap, ◌∙◌, sym}
use mathlib.Core.Bool.{Bool, true, false, cond, ◌&&◌}
use mathlib.Core.List.{List}
use Prim.Native.Nat.{ℕ, ◌+◌, ◌≤◌, ◌<◌}
use native.Mathlib.Omega.{arith}
use borrow.Author.Tests.{le-leb, lt-leb, eq-eqb, ne_eqb}
use lib.Dec.{eqb}
use lib.ListN.{length, get_or, drop}
use Rattle.circuit.specs.declared.Circuit.{Circuit}
use Rattle.circuit.specs.declared.Refusal.{Refusal}
use Rattle.circuit.specs.declared.Refusal.TheVariants.{Length}
use Rattle.circuit.specs.Rules.{Answer, and_then, shaped}
use Rattle.circuit.specs.Structs.{held}
use Rattle.circuit.proofs.Listed.{listed-held}
use Rattle.circuit.proofs.RuleLaws.{circuit_fits}
use Rattle.builder.specs.Call.{built, refusal, plan_of}
use Rattle.builder.proofs.Theorems.{sound_circuit}
use Rattle.listing.specs.Printed.{listing_text, refused_text}
use Rattle.build.specs.Answered.{whole, plan_text, planned_text, answer_text, Fits}

module _ (s : List ℕ) where
  decided : (t : Bool) → whole s ≡ t → cond t (plan_text (refusal (get_or s 0 0) (drop 3 s) (get_or s 2 0)) (built (get_or s 0 0) (drop 3 s) (get_or s 2 0))) (refused_text Length) ≡ answer_text s
  unfolding answer_text
  decided t e =
      ap (λ (b : Bool). cond b (plan_text (refusal (get_or s 0 0) (drop 3 s) (get_or s 2 0)) (built (get_or s 0 0) (drop 3 s) (get_or s 2 0))) (refused_text Length)) (sym e)

  -- fewer than three bytes
  pub too_short : length s < 3 → refused_text Length ≡ answer_text s
  too_short h = decided false (ap (λ (b : Bool). b && eqb (length s) (3 + get_or s 1 0)) (lt-leb 3 (length s) h))

  -- not as long as its second byte says
  pub other_length : (m : ℕ) → m ≡ get_or s 1 0 → 3 ≤ length s → (length s ≡ 3 + m → ⊥) → refused_text Length ≡ answer_text s
  other_length m e h d = decided false (λ i. le-leb 3 (length s) h i && ne_eqb (length s) (3 + get_or s 1 0) (λ q. d (omega arith)) i)

  -- an input that is whole
  pub is_planned : (m : ℕ) → m ≡ get_or s 1 0 → 3 ≤ length s → length s ≡ 3 + m
      → plan_text (refusal (get_or s 0 0) (drop 3 s) (get_or s 2 0)) (built (get_or s 0 0) (drop 3 s) (get_or s 2 0)) ≡ answer_text s
  is_planned m e h d = decided true (λ i. le-leb 3 (length s) h i && eq-eqb (length s) (3 + get_or s 1 0) (omega arith) i)

  -- longer than 255 rows: the bytes past those that the program reads change nothing
  pub too_long : get_or s 1 0 < 256 → 258 < length s → refused_text Length ≡ answer_text s
  too_long b h = other_length (get_or s 1 0) refl (omega arith) (λ e. omega arith)

-- the text of a plan is that of the circuit that is built, or of the refusal
pub plan-text : (n : ℕ) (ts : List ℕ) (D : ℕ) (p : Result Circuit Refusal) → p ≡ plan_of n ts D → planned_text p ≡ plan_text (refusal n ts D) (built n ts D)
unfolding plan_of
plan-text n ts D p e = ap planned_text e ∙ by (refusal n ts D) refl where
  by : (a : Answer) → refusal n ts D ≡ a → planned_text (and_then a (Ok (held (built n ts D)))) ≡ plan_text a (built n ts D)
  by (Ok u) h = ap listing_text (listed-held true (built n ts D) (sound_circuit n ts D h))
  by (Err w) h = refl

-- a plan that is accepted is in range
pub plan_fits : (n : ℕ) (ts : List ℕ) (D : ℕ) (p : Result Circuit Refusal) → p ≡ plan_of n ts D → Fits p
unfolding plan_of
plan_fits n ts D p e c q = by (refusal n ts D) refl (sym e ∙ q) where
  by : (a : Answer) → refusal n ts D ≡ a → and_then a (Ok (held (built n ts D))) ≡ Ok c → shaped c.n c.m c.g ≡ true
  by (Ok u) h q =
      let k : held (built n ts D) ≡ c = cc in
      ap (λ (x : Circuit). shaped x.n x.m x.g) (sym k) ∙ (circuit_fits true (built n ts D) (sound_circuit n ts D h)).shaped-true
  by (Err w) h q = absurd (cc)
