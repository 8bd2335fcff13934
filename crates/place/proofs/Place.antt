-- The place of bad text.
use Rattle.std.specs.Prelude.{Result, Ok, Err}
use mathlib.Core.Path.{◌≡◌, refl, sym, ap, subst, ◌∙◌}
use mathlib.Core.Bool.{Bool, true, false}
use mathlib.Core.List.{List, ◌++◌, append_assoc}
use Prim.Native.Nat.{ℕ, ◌+◌, ◌≤◌, ◌<◌}
use native.Mathlib.Omega.{arith}
use borrow.Author.Tests.{ltb-true, ltb-false}
use lib.Dec.{ltb}
use lib.ListN.{length, take, drop, take-append-drop}
use lib.Seq.{take-take}
use Rattle.grammar.specs.File.{Good, Begins, Place}
use Rattle.formula.specs.declared.Why.{Why}
use Rattle.formula.specs.declared.Why.TheVariants.{Text, Name}
use Rattle.sheet.specs.Sheet.{file_of}
use Rattle.place.proofs.Automaton.{State, fresh, dead, run, ok, live, trace, trace_all, run-append, run_dead, finish, finishes}
use Rattle.place.proofs.Walk.{Stuck}
use Rattle.place.proofs.Accepted.{good_accepted, accepted_good}
use Rattle.place.proofs.Sheets.{Says, file-says}

-- some good text begins with what leads to a live state
pub live_begins : (s : List ℕ) (p : ℕ) → live (trace s p) ≡ true → Begins s p
unfolding trace
live_begins s p l =
    let x = trace s p in
    record { rest = finish x; good = accepted_good (take p s ++ finish x) (ap ok (run-append (fresh 0) (take p s) (finish x)) ∙ finishes x l) }

-- none begins with what leads to the dead one
dead_none : (s : List ℕ) (p : ℕ) → trace s p ≡ dead → Begins s p → ⊥
unfolding trace
dead_none s p e b =
    let d : run (fresh 0) (take p s ++ b.rest) ≡ dead = run-append (fresh 0) (take p s) b.rest ∙ ap (λ (x : State). run x b.rest) e ∙ run_dead b.rest in
    let f : ok dead ≡ true = sym (ap ok d) ∙ good_accepted (take p s ++ b.rest) b.good in
    let z : ◌≡◌ {A = ℕ} 0 1 = cc in
    omega arith

-- the place where the automaton is stuck is that of the first byte that no good text has there
pub stuck_place : (s : List ℕ) (p : ℕ) → Stuck s p → Place s p
stuck_place s p w =
    record {
      within = w.within;
      some = live_begins s p w.alive;
      none = λ h. dead_none s (p + 1) (w.never h);
      short = λ h g.
          let f = sym (w.short h) ∙ ap (λ (i : ℕ). ok (trace s i)) h ∙ ap ok (trace_all s) ∙ good_accepted s g in
          let z : ◌≡◌ {A = ℕ} 0 1 = cc in
          omega arith;
    }

-- what begins a good text, cut short, begins it too
pub begins_less : (s : List ℕ) (p q : ℕ) → p ≤ q → Begins s q → Begins s p
begins_less s p q h b =
    let e : take q s ≡ take p s ++ drop p (take q s) = sym (ap (λ (l : List ℕ). l ++ drop p (take q s)) (sym (take-take p q s h)) ∙ take-append-drop p (take q s)) in
    record {
      rest = drop p (take q s) ++ b.rest;
      good = subst Good (ap (λ (l : List ℕ). l ++ b.rest) e ∙ append_assoc (take p s) (drop p (take q s)) b.rest) b.good;
    }

no_later : (s : List ℕ) (p q : ℕ) → Place s p → Place s q → p < q → ⊥
no_later s p q a b h = a.none (omega (arith, b.within)) (begins_less s (p + 1) q (omega arith) b.some)

-- a text that has such a place is not good
pub place_bad : (s : List ℕ) (p : ℕ) → Place s p → Good s → ⊥
place_bad s p a g = by (ltb p (length s)) refl
  where
    by : (t : Bool) → ltb p (length s) ≡ t → ⊥
    by true e = let h = ltb-true p (length s) e in a.none h (record { rest = drop (p + 1) s; good = subst Good (sym (take-append-drop (p + 1) s)) g })
    by false e = a.short (omega (arith, ltb-false p (length s) e, a.within)) g

-- there is one such place
pub place_unique : (s : List ℕ) (p q : ℕ) → Place s p → Place s q → p ≡ q
place_unique s p q a b = by (ltb p q) refl (ltb q p) refl
  where
    by : (t : Bool) → ltb p q ≡ t → (u : Bool) → ltb q p ≡ u → p ≡ q
    by true et u eu = absurd (no_later s p q a b (ltb-true _ _ et))
    by false et true eu = absurd (no_later s q p b a (ltb-true _ _ eu))
    by false et false eu = omega (arith, ltb-false p q et, ltb-false q p eu)

-- ---- what the reader of files says

-- a text that is read is a file
pub read_good : (s : List ℕ) (q : ℕ) → (file_of s).step ≡ Ok q → Good s
read_good s q e = accepted_good s (ap ok (sym (trace_all s)) ∙ subst (Says s) e (file-says s))

-- 15 is given at the first byte that no good text has there
pub text_place : (s : List ℕ) (p : ℕ) → (file_of s).step ≡ Err (Text p) → Place s p
text_place s p e = stuck_place s p (subst (Says s) e (file-says s))

-- where 16 is given some good text begins with all that was read, the name's last byte included
pub name_place : (s : List ℕ) (p : ℕ) → (file_of s).step ≡ Err (Name p) → Begins s (p + 1)
name_place s p e = live_begins s (p + 1) (subst (Says s) e (file-says s)).0

-- so it comes before any 15
pub name_first : (s : List ℕ) (p q : ℕ) → Place s p → (file_of s).step ≡ Err (Name q) → q < p
name_first s p q a e = by (ltb q p) refl
  where
    by : (t : Bool) → ltb q p ≡ t → q < p
    by true h = ltb-true q p h
    by false h = absurd (a.none (omega (arith, ltb-false q p h, (subst (Says s) e (file-says s)).1)) (begins_less s (p + 1) (q + 1) (omega (arith, ltb-false q p h)) (name_place s q e)))

-- where no name is refused the reader reads each good text, and gives 15 at that place of any other
module _ (s : List ℕ) (names : (q : ℕ) → (file_of s).step ≡ Err (Name q) → ⊥) where
  pub good_read : Good s → (q : ℕ) × ((file_of s).step ≡ Ok q)
  good_read g = by (file_of s).step refl
    where
      by : (x : Result ℕ Why) → (file_of s).step ≡ x → (q : ℕ) × ((file_of s).step ≡ Ok q)
      by (Ok q) e = (q, e)
      by (Err (Text q)) e = absurd (place_bad s q (text_place s q e) g)
      by (Err (Name q)) e = absurd (names q e)

  pub place_text : (p : ℕ) → Place s p → (file_of s).step ≡ Err (Text p)
  place_text p a = by (file_of s).step refl
    where
      by : (x : Result ℕ Why) → (file_of s).step ≡ x → (file_of s).step ≡ Err (Text p)
      by (Ok q) e = absurd (place_bad s p a (read_good s q e))
      by (Err (Text q)) e = e ∙ ap (λ (i : ℕ). Err (Text i)) (place_unique s q p (text_place s q e) a)
      by (Err (Name q)) e = absurd (names q e)
