-- What changing an entry of the target leaves, from what was looked at first. Assumes nothing.
use Rattle.std.specs.Prelude.{Ok, Err}
use Rattle.circuit.specs.Rules.{Answer, done}
use mathlib.Core.Path.{◌≡◌, refl, ap, ap₂, ◌∙◌, sym}
use mathlib.Core.Bool.{Bool, true, false, cond, ◌&&◌, true≢false}
use mathlib.Core.List.{List, map}
use Prim.Native.Nat.{ℕ, ◌<◌, ◌≤◌, ◌+◌, ◌%◌, ◌^◌}
use native.Mathlib.Omega.{arith}
use native.Mathlib.Nat.{mod-eq_of_lt}
use lib.Dec.{leb, ltb, eqb}
use lib.ListN.{length, set, length-set, length-map, length-append}
use lib.Pow.{pow_mono}
use borrow.Author.Tests.{leb-true, ltb-true, eqb-true, eq-eqb}
use Rattle.circuit.specs.declared.Refusal.{Refusal}
use Rattle.circuit.specs.declared.Refusal.TheVariants.{Target as BadTarget, NotThere, NothingOpen}
use Rattle.circuit.specs.Lines.{Listing, padded}
use Rattle.circuit.specs.Rows.{Row, row}
use Rattle.circuit.specs.Rules.{unless}
use Rattle.circuit.specs.Sizes.{most_inputs, most_outputs, most_values}
use Rattle.circuit.proofs.Shapes.{Shaped, past, both}
use Rattle.circuit.proofs.Padding.{padded-set}
use Rattle.circuit.proofs.RuleLaws.{circuit_fits}
use Rattle.targets.specs.Target.{Target, matrix, table, is_matrix, target_bytes, row_is_sound, entry_fits, target_fits, value_fits}
use Rattle.targets.specs.Wanted.{wanted_in}
use Rattle.targets.proofs.Bytes.{set-row}
use Rattle.targets.proofs.Fitting.{all_set}
use Rattle.targets.proofs.Wanting.{wanted_padded}
use Rattle.bench.specs.declared.Bench.{Bench}
use Rattle.bench.specs.State.{State, with_target, Sound, Present, nothing, present}
use Rattle.bench.specs.Held.{empty_bench, full_bench, bench_of, Stands, bench_with, retargeted, circuit_of}
use Rattle.bench.specs.Calls.{after, no_lines, entry_answer, entry_edit_answer, with_entry, entry_edited, after_entry, EntryPromise}
use Rattle.bench.specs.Parts.{open_on, entry_look, entered}
use Rattle.bench.proofs.Standing.{full_standing}
use Rattle.bench.proofs.Stood.{standing-shaped}
use Rattle.bench.proofs.EditLaws.{edit_refused, edit_done}

-- ---- the bench with another target

-- these bytes, and what they want of each output
abbrev pub aimed : Bench → List ℕ → Bench
aimed b T = retargeted b T (wanted_in b.is_matrix T b.m)

aimed_full : (s : State) (t : Target) (T : List ℕ) → is_matrix s.target ≡ is_matrix t → T ≡ padded most_values 0 (target_bytes t)
    → target_fits s.circuit.inputs (length s.circuit.outs) t ≡ true → length s.circuit.outs ≤ most_outputs
    → aimed (full_bench s) T ≡ full_bench (with_target s t)
unfolding full_bench
aimed_full s t T same e fits few =
    let m = length s.circuit.outs in
    let w = (λ i. wanted_in (same i) (e i) m) ∙ wanted_padded s.circuit.inputs m t fits few in
    λ i. bench_with true (circuit_of (full_bench s)) (same i) (e i) (w i) s.limits (full_bench s).depths (full_bench s).and_depths (full_bench s).values

-- ---- an accepted look shows that the entry is within the array, on any bench

below_byte : (k x : ℕ) → k ≤ most_inputs → x < 2 ^ k → x < most_values
below_byte k x h l = omega (arith, pow_mono {i = k} {j = 8} h)

-- there are as many outputs as there may be at most, and the entry is one of a table, or of the rows
pub record EntryThere (only : Bool) (m i : ℕ) : Type 0 where
  pub few : m ≤ most_outputs
  pub there : i < most_values
  pub row : only ≡ true → i < m

pub entry_there : (b : Bench) (i value constant : ℕ) → entry_look b i value constant ≡ done → EntryThere b.is_matrix b.m i
unfolding entry_look
entry_there b i value constant h =
    let p = past (open_on b) NothingOpen h in
    let q = past (ltb i (cond b.is_matrix b.m (2 ^ b.n))) NotThere p.1 in
    let ok = standing-shaped b.is_open b.n b.m b.g p.0 in
    by b.is_matrix ok (ltb-true i (cond b.is_matrix b.m (2 ^ b.n)) q.0) where
      by : (t : Bool) → Shaped b.n b.m b.g → i < cond t b.m (2 ^ b.n) → EntryThere t b.m i
      by true ok l = record { few = ok.m_most; there = omega (arith, ok); row = λ e. l }
      by false ok l = record { few = ok.m_most; there = below_byte b.n i ok.n_most l; row = λ e. absurd (true≢false (sym e)) }

-- ---- what an accepted entry shows of a state

-- value and constant are bytes, the target's bytes become those of the target that it makes, and that keeps its rule
pub record EntryRight (n m i value constant : ℕ) (t : Target) : Type 0 where
  pub small : value < 256
  pub bit : constant < 256
  pub bytes : entered (is_matrix t) m (padded most_values 0 (target_bytes t)) i value constant ≡ padded most_values 0 (target_bytes (with_entry t i value constant))
  pub fits : target_fits n m (with_entry t i value constant) ≡ true

module _ (i value constant : ℕ) where
  entry_right : (c : Listing) (t : Target) → c.inputs ≤ most_inputs → length c.outs ≤ most_outputs → target_fits c.inputs (length c.outs) t ≡ true
      → entry_answer c t i value constant ≡ done → EntryRight c.inputs (length c.outs) i value constant t
  unfolding target_fits row_is_sound entry_fits entered
  entry_right c (matrix rows) n8 m32 f a =
      let n = c.inputs in
      let m = length c.outs in
      let r = row value constant in
      let k = both (eqb (length rows) m) f in
      let p = past (ltb i m) NotThere a in
      let q = (past (row_is_sound n r) BadTarget p.1).0 in
      let u = both (ltb value (2 ^ n)) q in
      let l = eqb-true (length rows) m k.0 in
      let there = ltb-true i m p.0 in
      let many = eq-eqb (length (set rows i r)) m (length-set rows i r ∙ l) in
      let each = all_set (row_is_sound n) rows i r k.1 q in
      let bytes = target_bytes (matrix rows) in
      let masks = map (λ (x : Row). x.mask) rows in
      let long : length bytes ≡ m + m =
      omega (arith, l, length-append masks (map (λ (x : Row). x.constant) rows), length-map rows (λ (x : Row). x.mask), length-map rows (λ (x : Row). x.constant)) in
      record {
        small = below_byte n value n8 (ltb-true value (2 ^ n) u.0);
        bit = omega (arith, ltb-true constant 2 u.1);
        bytes =
            ap (λ (l : List ℕ). set l (m + i) constant) (padded-set most_values 0 bytes i value (omega arith))
            ∙ padded-set most_values 0 (set bytes i value) (m + i) constant (omega (arith, length-set bytes i value))
            ∙ ap (padded most_values 0) (ap (λ (k : ℕ). set (set bytes i value) (k + i) constant) (sym l) ∙ set-row rows i value constant (omega arith));
        fits = λ j. many j && each j;
      }
  entry_right c (table entries) n8 m32 f a =
      let n = c.inputs in
      let m = length c.outs in
      let u = both (leb m 8) f in
      let k = both (eqb (length entries) (2 ^ n)) u.1 in
      let p = past (ltb i (2 ^ n)) NotThere a in
      let q = both (entry_fits m value) (past (entry_fits m value && eqb constant 0) BadTarget p.1).0 in
      let l = eqb-true (length entries) (2 ^ n) k.0 in
      let many = eq-eqb (length (set entries i value)) (2 ^ n) (length-set entries i value ∙ l) in
      let each = all_set (entry_fits m) entries i value k.1 q.0 in
      record {
        small = below_byte m value (leb-true m 8 u.0) (ltb-true value (2 ^ m) q.0);
        bit = omega (arith, eqb-true constant 0 q.1);
        bytes = padded-set most_values 0 entries i value (omega (arith, ltb-true i (2 ^ n) p.0));
        fits = λ j. u.0 j && (many j && each j);
      }

  pub entry_accepted : (s : State) → Sound s → entry_edit_answer (present s) i value constant ≡ done
      → EntryRight s.circuit.inputs (length s.circuit.outs) i value constant s.target
  unfolding entry_edit_answer
  entry_accepted s ok a =
      let f = (circuit_fits (is_matrix s.target) s.circuit ok.circuit).shape in
      entry_right s.circuit s.target f.n_most f.m_most ok.target a

  -- ---- the call

  abbrev pub entry_look_on : Bench → Answer
  entry_look_on b = entry_look b i value constant

  entry-look : (b : Bench) (p : Present) → Stands b p → entry_look_on b ≡ entry_edit_answer p i value constant
  unfolding entry_look entry_edit_answer empty_bench full_bench
  entry-look b nothing k = ap entry_look_on k.is
  entry-look b (present s) k =
      ap entry_look_on k.is
      ∙ ap (λ (t : Bool). unless t NothingOpen (look s.target)) (full_standing s k.sound) ∙ same s.target where
        look : Target → Answer
        look t =
            unless (ltb i (cond (is_matrix t) (length s.circuit.outs) (2 ^ s.circuit.inputs))) NotThere
            (unless (value_fits (is_matrix t) s.circuit.inputs (length s.circuit.outs) value constant) BadTarget done)

        same : (t : Target) → look t ≡ entry_answer s.circuit t i value constant
        same (matrix rows) = refl
        same (table entries) = refl

  -- a refused edit leaves what is present
  pub entry_kept : (p : Present) (w : Refusal) → entry_edit_answer p i value constant ≡ Err w → after_entry p i value constant ≡ p
  entry_kept nothing w e = refl
  entry_kept (present s) w e = ap (λ (x : Answer). after x (entry_edited s i value constant) (present s)) e

  shut : entry_edit_answer nothing i value constant ≡ Err NothingOpen
  unfolding entry_edit_answer
  shut = refl

  -- what the code makes of an accepted bench
  abbrev pub entered_on : Bench → Bench
  entered_on b = aimed b (entered b.is_matrix b.m b.target i (value % 256) (constant % 256))

  pub same_kind : (t : Target) → is_matrix t ≡ is_matrix (with_entry t i value constant)
  same_kind (matrix rows) = refl
  same_kind (table entries) = refl

  entry_entered : (s : State) → Sound s → EntryRight s.circuit.inputs (length s.circuit.outs) i value constant s.target
      → entered_on (full_bench s) ≡ full_bench (entry_edited s i value constant)
  unfolding full_bench
  entry_entered s ok r =
      let t = s.target in
      let m = length s.circuit.outs in
      aimed_full s (with_entry t i value constant) _ (same_kind t)
      (ap₂ (entered (is_matrix t) m (padded most_values 0 (target_bytes t)) i) (mod-eq_of_lt r.small) (mod-eq_of_lt r.bit) ∙ r.bytes)
      r.fits (circuit_fits (is_matrix t) s.circuit ok.circuit).shape.m_most

  pub entry_refused : (b : Bench) (w : Refusal) → entry_look_on b ≡ Err w → EntryPromise b i value constant (Err w) b
  entry_refused = edit_refused (λ p. entry_edit_answer p i value constant) (λ p. after_entry p i value constant) entry_look_on shut entry-look entry_kept

  pub entry_done : (b z : Bench) → entry_look_on b ≡ done → z ≡ entered_on b → EntryPromise b i value constant (Ok no_lines) z
  entry_done =
      edit_done (λ p. entry_edit_answer p i value constant) (λ p. after_entry p i value constant) entry_look_on shut entry-look entry_kept entered_on
      (λ s ok d. entry_entered s ok (entry_accepted s ok d) ∙ ap (λ (x : Answer). bench_of (after x (entry_edited s i value constant) (present s))) (sym d))
