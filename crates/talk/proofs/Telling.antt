-- A call's answer from what was said of it and what the call promises. Assumes nothing.
use Rattle.circuit.specs.Rules.{Answer}
use mathlib.Core.Path.{◌≡◌, refl, ap, ◌∙◌, subst}
use mathlib.Core.Bool.{Bool, true, false}
use mathlib.Core.List.{List}
use Prim.Native.Nat.{ℕ}
use Rattle.targets.specs.Target.{brought}
use Rattle.bench.specs.declared.Bench.{Bench}
use Rattle.bench.specs.State.{Present, limits}
use Rattle.bench.specs.Held.{bench_of, Stands}
use Rattle.bench.specs.Calls.{open_answer, OpenPromise}
use Rattle.bench.proofs.OpenLaws.{open_stands}
use Rattle.script.specs.Reading.{ask_open}
use Rattle.script.specs.Order.{Order}
use Rattle.talk.specs.declared.Told.{Told}
use Rattle.talk.specs.Talk.{present_after_line, text_of, Answers}
use Rattle.talk.specs.Texts.{open_text}
use Rattle.talk.specs.Saying.{Said}
use Rattle.talk.proofs.Spoken.{first_bytes, other_bytes}

module _ {b : Bench} {o : Order} {out after : List ℕ} where
  -- a text is said that is the answer, whatever is present
  pub answers : {text : List ℕ} (r : Told) → Said out after r.len text
      → ((p : Present) → Stands b p → (r.bench ≡ bench_of (present_after_line p o)) × (text ≡ text_of p o)) → Answers b o out after r
  answers r s f = record { counts = s.counts; rest = other_bytes s; bench = λ p k. (f p k).0; text = λ p k. first_bytes s ∙ (f p k).1 }

  -- a call promises its answer x and the bench after it, and x is said
  pub answers_call : {A : Type 0} (say : A → List ℕ) {x : A} {next : Bench} (X : Present → A) (r : Told)
      → ((p : Present) → Stands b p → (x ≡ X p) × (next ≡ bench_of (present_after_line p o))) → ((p : Present) → say (X p) ≡ text_of p o)
      → (r.bench ≡ next) × Said out after r.len (say x) → Answers b o out after r
  answers_call say X r f e s = answers r s.1 (λ p k. (s.0 ∙ (f p k).1, ap say (f p k).0 ∙ e p))

-- an answer to one order is the answer to that order by another name
pub answers_as : {b : Bench} {o q : Order} {out after : List ℕ} {r : Told} → o ≡ q → Answers b o out after r → Answers b q out after r
answers_as {b} {o} {q} {out} {after} {r} e a = subst (λ (x : Order). Answers b x out after r) e a

-- an open with a target of either kind, over the same bytes by other names
module _ (b next : Bench) (out after us vs : List ℕ) (g d a : ℕ) (answer : Answer) (r : Told) (s : (r.bench ≡ next) × Said out after r.len (open_text answer)) where
  -- by the kind of the target
  open_either : (only : Bool) → OpenPromise b us (brought only vs) (limits g d a) answer next → Answers b (ask_open only us vs g d a) out after r
  open_either true f =
      answers_call open_text (λ (p : Present). open_answer us (brought true vs)) r (λ p k. (f.0, f.1 ∙ open_stands b us (brought true vs) (limits g d a) k)) (λ p. refl) s
  open_either false f =
      answers_call open_text (λ (p : Present). open_answer us (brought false vs)) r (λ p k. (f.0, f.1 ∙ open_stands b us (brought false vs) (limits g d a) k)) (λ p. refl) s

  -- over bytes that are the same
  pub answers_open : (only : Bool) (xs ys : List ℕ) → xs ≡ us → ys ≡ vs → OpenPromise b xs (brought only ys) (limits g d a) answer next
      → Answers b (ask_open only us vs g d a) out after r
  answers_open only xs ys e f p =
      open_either only (subst (λ (z : List ℕ). OpenPromise b us (brought only z) (limits g d a) answer next) f
      (subst (λ (z : List ℕ). OpenPromise b z (brought only ys) (limits g d a) answer next) e p))
