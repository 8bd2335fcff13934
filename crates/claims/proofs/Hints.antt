-- The hint: after any calls it is what the definition gives of what is present, refused exactly by its table; and what its lines are, in the circuit's terms.
use Rattle.std.specs.Prelude.{Option, Some, None, Result, Ok, Err}
use mathlib.Core.Path.{◌≡◌, refl, sym, ap, ◌∙◌, subst}
use mathlib.Core.Bool.{Bool, true, false, cond}
use mathlib.Core.List.{List, map}
use Prim.Native.Nat.{ℕ, ◌+◌, ◌-◌, ◌≤◌, ◌<◌}
use native.Mathlib.Decide.{ℕ_discrete, dec_lt}
use native.Mathlib.Omega.{arith}
use borrow.Author.Tests.{lt-ltb}
use lib.Bits.{differ}
use lib.Dec.{ltb}
use lib.ListN.{length, get_or}
use Rattle.circuit.specs.declared.Refusal.{Refusal}
use Rattle.circuit.specs.declared.Refusal.TheVariants.{NotThere}
use Rattle.circuit.specs.Lines.{Listing}
use Rattle.circuit.specs.Rows.{Row, no_row, masks_of}
use Rattle.circuit.specs.Rules.{refusal_no}
use Rattle.distance.specs.declared.Found.{Found}
use Rattle.distance.specs.declared.Refusal.{Refusal as QueryRefusal}
use Rattle.distance.specs.declared.FoundNumbers.{FoundNumbers}
use Rattle.distance.specs.Base.{Program}
use Rattle.distance.specs.Query.{answer_of, lines_of, found_of, bare_code, found_code, distance_no}
use Rattle.distance.proofs.Sound.{found_code_is}
use Rattle.targets.specs.Target.{Target, matrix, table, wants}
use Rattle.bench.specs.declared.Bench.{Bench}
use Rattle.bench.specs.State.{State, Present, nothing, present, Sound, SoundPresent}
use Rattle.bench.specs.Held.{empty_bench, Stands}
use Rattle.bench.specs.Run.{Call, present_after, Runs}
use Rattle.bench.proofs.RunLaws.{after-calls}
use Rattle.hint.specs.Hint.{depths_of, shallow, picked, Hinted, hinted, hint_answer, hint_for, hint_under, hint_of, hint_no, hint_numbers, HintPromise, HintCode}
use Rattle.hint.proofs.Theorems as hints
use Rattle.hint.proofs.Theorems.{Reaches, HintRight, told, line_at, summed, offset}
use Rattle.claims.proofs.Causes.{first, accepted, GivenExactly, hit, miss, none_left}
use Rattle.claims.proofs.Tables.{NoRow, RowIsZero, hint_table}
use Rattle.claims.proofs.Following.{distance_law}
use Rattle.claims.proofs.FirstDemand.{distance-numbered}

-- ---- the numbers

-- a hint that is no refusal has the number 0
not-refused : (r : Hinted) → ((w : Refusal) → r ≡ Err w → ⊥) → hint_no r ≡ 0
not-refused (Ok x) h = refl
not-refused (Err w) h = absurd (h w refl)

module _ (s : State) (ok : Sound s) (j D : ℕ) where
  -- the mask of row j, and the number of its hint
  abbrev mask : List Row → ℕ
  mask rows = (get_or rows j no_row).mask

  abbrev number : List Row → ℕ
  number rows = hint_no (hint_for s.circuit (mask rows) D)

  -- what the table says of a row that is there: its mask (8), and then the depth (9)
  abbrev deep_table : ℕ → Type 0
  deep_table = first 9 (15 < D) accepted

  abbrev row_table : List Row → ℕ → Type 0
  row_table rows = first 8 (mask rows ≡ 0) deep_table

  depth_law : (rows : List Row) → s.target ≡ matrix rows → j < length rows → (mask rows ≡ 0 → ⊥) → Dec (15 < D) → GivenExactly (number rows) deep_table
  depth_law rows e h some (yes deep) = subst (λ (n : ℕ). GivenExactly n deep_table) (ap hint_no (sym (hints.hint_too_deep s ok rows e j D h some deep))) (hit 9 accepted deep)
  depth_law rows e h some (no flat) =
      subst (λ (n : ℕ). GivenExactly n deep_table) (sym (not-refused (hint_for s.circuit (mask rows) D) (hints.hint_not_refused s ok rows e j D h some (omega arith))))
      (miss 9 0 accepted flat none_left)

  row_law : (rows : List Row) → s.target ≡ matrix rows → j < length rows → Dec (mask rows ≡ 0) → GivenExactly (number rows) (row_table rows)
  row_law rows e h (yes z) = subst (λ (n : ℕ). GivenExactly n (row_table rows)) (ap hint_no (sym (hints.hint_row_zero s ok rows e j D h z))) (hit 8 deep_table z)
  row_law rows e h (no some) = miss 8 (number rows) deep_table some (depth_law rows e h some (dec_lt 15 D))

  under : (t : Target) → s.target ≡ t → GivenExactly (hint_no (hint_under s.circuit t j D)) (first 12 (NoRow t j) (first 8 (RowIsZero t j) deep_table))
  under (table entries) e = hit 12 (first 8 ⊥ deep_table) tt
  under (matrix rows) e = by (dec_lt j (length rows))
    where
      by : Dec (j < length rows) → GivenExactly (hint_no (hint_under s.circuit (matrix rows) j D)) (first 12 (length rows ≤ j) (row_table rows))
      by (yes h) =
          let is = ap (λ (x : Bool). hint_no (cond x (hint_for s.circuit (mask rows) D) (Err NotThere))) (lt-ltb j (length rows) h) in
          subst (λ (n : ℕ). GivenExactly n (first 12 (length rows ≤ j) (row_table rows))) (sym is)
          (miss 12 (number rows) (row_table rows) (λ none. omega arith) (row_law rows e h (ℕ_discrete (mask rows) 0)))
      by (no h) =
          subst (λ (n : ℕ). GivenExactly n (first 12 (length rows ≤ j) (row_table rows))) (sym (hints.number-no_row s.circuit rows j D (omega arith)))
          (hit 12 (row_table rows) (omega arith))

hint_law : (p : Present) (j D : ℕ) → SoundPresent p → GivenExactly (hint_no (hint_of p j D)) (hint_table p j D)
hint_law nothing j D ok = λ n. (sym, sym)
hint_law (present s) j D ok = under s ok j D s.target refl

-- ---- the number in what other languages are given

-- the number of a query's answer is that of the hint, with its lines or without
same_number : (a : Result (Option ℕ) QueryRefusal) (xs : List ℕ) → hint_no (hinted (hint_answer a) xs) ≡ distance_no a
same_number (Ok r) xs = refl
same_number (Err why) xs = hints.refusal-number why

module _ (c : Listing) (t D : ℕ) where
  abbrev is : List ℕ
  is = shallow (depths_of c)

  abbrev ms : List ℕ
  ms = picked is (masks_of c)

  abbrev ds : List ℕ
  ds = picked is (depths_of c)

  -- as one number: 100 and the refusal's, and what is not refused is below that
  code_for : (hint_numbers (hint_for c t D)).code - 100 ≡ hint_no (hint_for c t D)
  unfolding hint_for
  code_for =
      let n = c.inputs in
      let a = answer_of n ms ds t D in
      let xs = picked (lines_of n ms ds t D) is in
      ap (λ (k : ℕ). k - 100) (hints.numbers_are (hint_answer a) xs ∙ hints.answer_code a ∙ sym (ap (λ (x : FoundNumbers). x.code) (found_code_is n ms ds t D)))
      ∙ (distance-numbered n ms ds t D (found_code (found_of n ms ds t D)) refl (distance_no a)).1 ((distance_law n ms ds t D (distance_no a)).0 refl)
      ∙ sym (same_number a xs)

code_law : (p : Present) (j D : ℕ) → (hint_numbers (hint_of p j D)).code - 100 ≡ hint_no (hint_of p j D)
code_law nothing j D = refl
code_law (present s) j D = under s.target
  where
    row : (x : Bool) (t : ℕ) → (hint_numbers (cond x (hint_for s.circuit t D) (Err NotThere))).code - 100 ≡ hint_no (cond x (hint_for s.circuit t D) (Err NotThere))
    row true t = code_for s.circuit t D
    row false t = refl

    under : (t : Target) → (hint_numbers (hint_under s.circuit t j D)).code - 100 ≡ hint_no (hint_under s.circuit t j D)
    under (matrix rows) = row (ltb j (length rows)) (get_or rows j no_row).mask
    under (table entries) = refl

-- ---- After any calls. `now` is what is present.
module _ {b : Bench} {calls : List Call} (run : Runs empty_bench calls b) (j D : ℕ) where
  abbrev now : Present
  now = present_after calls

  stands : Stands b now
  stands = after-calls run

  -- What meets the promise of a hint is what the definition gives of what is present, in numbers too;
  pub hint_given : (r : Hinted) → HintPromise b j D r → r ≡ hint_of now j D
  hint_given r h = h now stands

  pub hint_given_numbered : (r : FoundNumbers) → HintCode b j D r → r ≡ hint_numbers (hint_of now j D)
  hint_given_numbered r h = h now stands

  -- its number is given exactly by the table: 13, 12, 8, 9.
  pub hint-numbers : (r : Hinted) → HintPromise b j D r → GivenExactly (hint_no r) (hint_table now j D)
  hint-numbers r h = subst (λ (a : Hinted). GivenExactly (hint_no a) (hint_table now j D)) (sym (hint_given r h)) (hint_law now j D stands.sound)

  pub hint_numbered : (r : FoundNumbers) → HintCode b j D r → GivenExactly (r.code - 100) (hint_table now j D)
  hint_numbered r h =
      subst (λ (n : ℕ). GivenExactly n (hint_table now j D)) (sym (ap (λ (x : FoundNumbers). x.code - 100) (hint_given_numbered r h) ∙ code_law now j D)) (hint_law now j D stands.sound)

  -- Nothing stands beside a refusal: it is its number alone.
  pub hint_refused : (r : Hinted) (w : Refusal) → HintPromise b j D r → r ≡ Err w → hint_numbers r ≡ bare_code (100 + refusal_no w)
  hint_refused r w h e = ap hint_numbers e

  -- Of row j of an open matrix:
  module _ (s : State) (here : now ≡ present s) (rows : List Row) (e : s.target ≡ matrix rows) (there : j < length rows) (r : Hinted) (meets : HintPromise b j D r) where
    standing : Stands b (present s)
    standing = subst (Stands b) here stands

    row_hint : r ≡ hint_for s.circuit (get_or rows j no_row).mask D
    row_hint = hints.hint_is b j D s rows standing e there r meets

    -- g gates: the lines beside it are g + 1 lines of the circuit that reach the row within the depth; no fewer do, and of those that are as few these come
    -- first. Their values sum to what the matrix wants of output j, plus a constant that is the same on every input.
    pub hint_lines : (f : Found) → r ≡ Ok (Some f)
        → HintRight s.circuit (get_or rows j no_row).mask D f.gates (told f)
        × ((x : ℕ) → summed s.circuit (told f) x ≡ differ (wants (matrix rows) x j) (offset s.circuit (get_or rows j no_row) (told f)))
    hint_lines = hints.hint_makes b j D s rows standing e there r meets

    -- By themselves they make the row within the depth, by g gates.
    pub hint_program : (f : Found) → r ≡ Ok (Some f) → Program (map (line_at s.circuit) (told f)) f.gates (get_or rows j no_row).mask D
    hint_program f a = let right = (hint_lines f a).0 in hints.reached-makes s.circuit (get_or rows j no_row).mask D f.gates (told f) right.count right.reaches

    -- None: no lines reach it.
    pub hint_none : r ≡ Ok None → (ys : List ℕ) → Reaches s.circuit (get_or rows j no_row).mask D ys → ⊥
    hint_none never = hints.hint_never s.circuit (get_or rows j no_row).mask D (sym row_hint ∙ never)
