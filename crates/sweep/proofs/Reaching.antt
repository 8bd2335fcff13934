-- A gate is kept or merged exactly where an output names a line that is reached from it, in the words that edits use. Assumes nothing.
use Rattle.circuit.specs.Rules.{done}
use mathlib.Core.Path.{◌≡◌, refl, ap, ◌∙◌, sym, subst}
use mathlib.Core.Bool.{Bool, true, false, ◌||◌, true≢false}
use mathlib.Core.Logic.{⊎_elim}
use mathlib.Core.List.{List, [], ◌∷◌, map}
use Prim.Native.Nat.{ℕ, zero, suc, ◌+◌, ◌≤◌, ◌<◌}
use native.Mathlib.Omega.{arith}
use lib.Dec.{eqb}
use lib.ListN.{length, get_or, replicate, length-replicate}
use borrow.Author.Tests.{eq-eqb, eqb-true}
use Rattle.circuit.specs.Lines.{Listing, gate_at, reads, lines, reach_step, any_of, reached}
use Rattle.circuit.specs.Rules.{listing_answer}
use Rattle.circuit.proofs.Keep.{Below}
use Rattle.circuit.proofs.LineLaws.{lines_more}
use Rattle.circuit.proofs.Padding.{pad_read}
use Rattle.circuit.proofs.RuleLaws.{circuit_fits, out_below}
use Rattle.sweep.specs.Sweep.{has, used}
use Rattle.sweep.proofs.SameLaws.{lt-or-le, either, or_right, has_all, has_below, back_outs, back-reads, back-all, AllBelow}
use Rattle.sweep.proofs.Fits.{fits_below}
use Rattle.sweep.proofs.Steps.{line_is}

-- one of some holds, and which
any_has : (f : ℕ → Bool) (xs : List ℕ) (x : ℕ) → has xs x ≡ true → f x ≡ true → any_of (map f xs) ≡ true
unfolding has
any_has f [] x m h = absurd (true≢false (sym m))
any_has f (y ∷ xs) x m h =
    ⊎_elim (λ e. ap (λ (t : Bool). t || any_of (map f xs)) (ap f (eqb-true y x e) ∙ h)) (λ e. or_right (f y) _ (any_has f xs x e h)) (either (eqb y x) (has xs x) m)

any_some : (f : ℕ → Bool) (P : Type 0) (xs : List ℕ) → any_of (map f xs) ≡ true → ((x : ℕ) → has xs x ≡ true → f x ≡ true → P) → P
unfolding has
any_some f P [] h p = absurd (true≢false (sym h))
any_some f P (y ∷ xs) h p =
    ⊎_elim (λ e. p y (ap (λ (t : Bool). t || has xs y) (eq-eqb y y refl)) e)
    (λ e. any_some f P xs e (λ x m q. p x (or_right (eqb y x) _ m) q)) (either (f y) (any_of (map f xs)) h)

both_ways : (a b : Bool) → (a ≡ true → b ≡ true) → (b ≡ true → a ≡ true) → a ≡ b
both_ways true b f g = sym (f refl)
both_ways false true f g = g refl
both_ways false false f g = refl

module _ (only : Bool) (c : Listing) (ok : listing_answer only c ≡ done) (k : ℕ) (there : k < length c.gates) where
  abbrev n : ℕ
  n = c.inputs

  abbrev g : ℕ
  g = length c.gates

  -- line i is reached from gate k
  abbrev pub From : ℕ → Bool
  From i = get_or (reached k n (gate_at c) g) i false

  below : AllBelow n c.gates
  below = fits_below only c (circuit_fits only c ok)

  from_is : (j : ℕ) → j < g → From (n + j) ≡ (eqb j k || any_of (map From (reads (gate_at c j))))
  from_is j h =
      let l = length-replicate n false in
      subst (λ (m : ℕ). From (m + j) ≡ (eqb j k || any_of (map From (reads (gate_at c j))))) l
      (line_is (reach_step k) false (replicate n false) (gate_at c) g j h (subst (λ (m : ℕ). Below (m + j) (reads (gate_at c j))) (sym l) (below j h)))

  from_input : (i : ℕ) → i < n → From i ≡ false
  unfolding lines
  from_input i h =
      lines_more (reach_step k) false (replicate n false) (gate_at c) 0 i (omega (arith, length-replicate n false)) g (omega arith) ∙ pad_read [] n i false

  from_own : From (n + k) ≡ true
  from_own = from_is k there ∙ ap (λ (t : Bool). t || any_of (map From (reads (gate_at c k)))) (eq-eqb k k refl)

  -- what outputs reach, and gate k reaches, lies between them
  onward : (i : ℕ) → used c i ≡ true → From i ≡ true → any_of (map From c.outs) ≡ true
  onward =
      back-all (λ (i : ℕ). From i ≡ true → any_of (map From c.outs) ≡ true) n c.gates c.outs (λ o m f. any_has From c.outs o m f)
      (λ j h p r m f. p (from_is j h ∙ or_right (eqb j k) _ (any_has From (reads (gate_at c j)) r m f)))

  backward : (j : ℕ) → j ≤ g → (i : ℕ) → i < n + j → used c i ≡ true → From i ≡ true → used c (n + k) ≡ true
  backward zero l i h u f = absurd (true≢false (sym f ∙ from_input i (omega arith)))
  backward (suc j) l i h u f =
      ⊎_elim (λ b. backward j (omega arith) i b u f)
      (λ b. let z : i ≡ n + j = omega arith in
      let u' = subst (λ (x : ℕ). used c x ≡ true) z u in
      ⊎_elim (λ e. subst (λ (x : ℕ). used c (n + x) ≡ true) (eqb-true j k e) u')
      (λ e. any_some From (used c (n + k) ≡ true) (reads (gate_at c j)) e
      (λ r m q. backward j (omega arith) r (has_below (n + j) (reads (gate_at c j)) r (below j (omega arith)) m)
      (back-reads n c.gates c.outs below j (omega arith) u' r m) q))
      (either (eqb j k) (any_of (map From (reads (gate_at c j)))) (sym (from_is j (omega arith)) ∙ ap From (sym z) ∙ f)))
      (lt-or-le i (n + j))

  -- gate k is used exactly where an output names a line that is reached from it
  pub used_exactly : used c (n + k) ≡ any_of (map From c.outs)
  used_exactly =
      both_ways (used c (n + k)) (any_of (map From c.outs)) (λ u. onward (n + k) u from_own)
      (λ a. any_some From (used c (n + k) ≡ true) c.outs a
      (λ o m f. backward g (omega arith) o (outs_below o m) (back_outs n c.gates c.outs o m) f)) where
        outs_below : (o : ℕ) → has c.outs o ≡ true → o < n + g
        outs_below = has_all (λ (o : ℕ). o < n + g) c.outs (λ j h. out_below (n + g) _ ((circuit_fits only c ok).outs j h))
