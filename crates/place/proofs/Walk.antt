-- Runs of the automaton along a text: spaces, ~ and names.
use mathlib.Core.Path.{◌≡◌, ap, subst, ◌∙◌}
use mathlib.Core.Bool.{Bool, true, false}
use mathlib.Core.List.{List}
use Prim.Native.Nat.{ℕ, zero, suc, ◌+◌, ◌-◌, ◌≤◌, ◌<◌}
use native.Mathlib.Omega.{arith}
use borrow.Author.Tests.{lt-ltb}
use lib.ListN.{length, get_or}
use Rattle.formula.specs.Sizes.{longest}
use Rattle.formula.specs.Text.{past, in_class, word_end}
use Rattle.formula.specs.declared.Class.TheVariants.{Letter}
use Rattle.formula.proofs.Laws.{past-ge}
use Rattle.grammar.proofs.Bytes.{past_hits, past_stops, past-within}
use Rattle.place.proofs.Automaton.{End, State, word, then, dead, step, ok, live, trace, trace_next}

-- at q the automaton does what it does in the state x
pub record As (s : List ℕ) (q : ℕ) (x : State) : Type 0 where
  pub within : q ≤ length s
  pub alive : live (trace s q) ≡ true
  pub same : ok (trace s q) ≡ ok x
  pub goes : q < length s → trace s (q + 1) ≡ step x (get_or s q 0)

-- at q it does not go on: it dies of the byte there, and the text may not end there
pub record Stuck (s : List ℕ) (q : ℕ) : Type 0 where
  pub within : q ≤ length s
  pub alive : live (trace s q) ≡ true
  pub never : q < length s → trace s (q + 1) ≡ dead
  pub short : q ≡ length s → ok (trace s q) ≡ false

module _ (s : List ℕ) where
  pub exactly : (p : ℕ) (x : State) → trace s p ≡ x → p ≤ length s → live x ≡ true → As s p x
  exactly p x e h l = record { within = h; alive = ap live e ∙ l; same = ap ok e; goes = λ k. trace_next s p k ∙ ap (λ (x : State). step x (get_or s p 0)) e }

  pub stuck : (q : ℕ) (x : State) → As s q x → (q < length s → step x (get_or s q 0) ≡ dead) → (q ≡ length s → ok x ≡ false) → Stuck s q
  stuck q x a n short = record { within = a.within; alive = a.alive; never = λ k. a.goes k ∙ n k; short = λ k. a.same ∙ short k }

  pub moved : (q : ℕ) (x y : State) → As s q x → q < length s → step x (get_or s q 0) ≡ y → live y ≡ true → As s (q + 1) y
  moved q x y a h e l = exactly (q + 1) y (a.goes h ∙ e) (omega arith) l

  -- bytes that leave the state as it is
  module _ (f : ℕ → Bool) (x : State) (stays : (b : ℕ) → f b ≡ true → step x b ≡ x) (l : live x ≡ true) (p : ℕ) (a : As s p x) where
    up_to : (n i : ℕ) → i ≡ p + n → i ≤ past f s p → As s i x
    up_to zero i e h = let z : p ≡ i = omega arith in subst (λ (i : ℕ). As s i x) z a
    up_to (suc n) i e h =
        let b = up_to n (i - 1) (omega arith) (omega arith) in
        let z : i - 1 + 1 ≡ i = omega arith in
        subst (λ (i : ℕ). As s i x) z
        (moved (i - 1) x x b (omega (arith, past-within f s p a.within)) (stays (get_or s (i - 1) 0) (past_hits f s p (i - 1) (omega arith) (omega arith))) l)

    pub walk : As s (past f s p) x
    walk = up_to (past f s p - p) (past f s p) (omega (arith, past-ge f s p)) (omega arith)

  -- a name
  module _ (k : End) (x : State) (begins : (b : ℕ) → in_class Letter b ≡ true → step x b ≡ word 1 k) (p : ℕ) (a : As s p x) where
    abbrev e : ℕ
    e = word_end s p

    in_name : (n i : ℕ) → i ≡ p + suc n → i ≤ e → n < longest → trace s i ≡ word (suc n) k
    unfolding step
    in_name zero i q h m =
        let z : i ≡ p + 1 = omega arith in
        ap (trace s) z ∙ a.goes (omega (arith, past-within (in_class Letter) s p a.within)) ∙ begins (get_or s p 0) (past_hits (in_class Letter) s p p (omega arith) (omega arith))
    in_name (suc n) i q h m =
        let z : i ≡ i - 1 + 1 = omega arith in
        ap (trace s) z ∙ trace_next s (i - 1) (omega (arith, past-within (in_class Letter) s p a.within))
        ∙ ap (λ (x : State). step x (get_or s (i - 1) 0)) (in_name n (i - 1) (omega arith) (omega arith) (omega arith))
        ∙ rw (past_hits (in_class Letter) s p (i - 1) (omega arith) (omega arith), lt-ltb (suc n) longest m)

    pub name_as : p < e → e - p ≤ longest → As s e (then k)
    unfolding step
    name_as h m =
        let z : trace s e ≡ word (suc (e - p - 1)) k = in_name (e - p - 1) e (omega arith) (omega arith) (omega arith) in
        record {
          within = past-within (in_class Letter) s p a.within;
          alive = ap live z;
          same = ap ok z;
          goes = λ u. trace_next s e u ∙ ap (λ (x : State). step x (get_or s e 0)) z ∙ rw (past_stops (in_class Letter) s p u);
        }

    pub name_long : longest < e - p → Stuck s (p + longest)
    unfolding step
    name_long m =
        let z : trace s (p + longest) ≡ word longest k = in_name 15 (p + longest) (omega arith) (omega arith) (omega arith) in
        let w = past-within (in_class Letter) s p a.within in
        record {
          within = omega (arith, w);
          alive = ap live z;
          never = λ u. trace_next s (p + longest) u ∙ ap (λ (x : State). step x (get_or s (p + longest) 0)) z ∙ rw (past_hits (in_class Letter) s p (p + longest) (omega arith) (omega arith));
          short = λ u. absurd (omega (arith, w));
        }
