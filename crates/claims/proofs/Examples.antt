-- The bench examples K1 to K12 of the definition, as one table under one claim about the definitions, proved by computation.
use Rattle.std.specs.Prelude.{Option, Some, None, Result, Ok, Err}
use mathlib.Core.Path.{◌≡◌, refl}
use mathlib.Core.Bool.{true, false}
use mathlib.Core.List.{List, [], ◌∷◌, ◌++◌}
use Prim.Native.Nat.{ℕ}
use lib.ListN.{get_or}
use Rattle.circuit.specs.declared.Refusal.{Refusal}
use Rattle.circuit.specs.declared.Refusal.TheVariants.{TooShallow}
use Rattle.circuit.specs.Gate.{count_of, tally_of}
use Rattle.circuit.specs.Lines.{reads, unread, lines, upto, depth_of, listing}
use Rattle.circuit.specs.Rows.{on_row}
use Rattle.circuit.specs.Rules.{done, refusal_no, answer_no, shaped, operands_fit, gate_answer, out_answer, all_of}
use Rattle.stored.specs.Stored.{stored, records, listing_in}
use Rattle.stored.specs.Reading.{gate_record, out_record, answers, body_answer, reading_answer}
use Rattle.distance.specs.declared.Refusal.{Refusal as QueryRefusal}
use Rattle.distance.specs.Base.{Line, xor, base_of}
use Rattle.distance.specs.Distance.{distance, gates, never}
use Rattle.distance.specs.Query.{look_at, answer_of, lines_of}
use Rattle.distance.proofs.Examples as distances
use Rattle.builder.specs.Rule.{xor_gate}
use Rattle.builder.specs.Call.{built, refusal}
use Rattle.builder.proofs.Examples as building
use Rattle.targets.specs.Target.{row_is_sound, entry_fits, target_fits, brought, brought_fits}
use Rattle.bench.specs.declared.Verdict.{Verdict}
use Rattle.bench.specs.declared.Verdict.TheVariants.{Wrong, Pass}
use Rattle.bench.specs.declared.Report.{Report}
use Rattle.bench.specs.State.{least, verdict_of, report_of, limits}
use Rattle.bench.specs.Calls.{open_answer, gate_edit_answer, output_edit_answer, entry_edit_answer, places_from, size_of, gate_edit, listed_in, reported}
use Rattle.bench.specs.Run.{Call, present_after}
use Rattle.bench.specs.Run.Call.{opening, replacing, pointing, changing}

-- ---- what is given

-- K1, K2, K3: rows 3, 7, 6
abbrev rows : List ℕ
rows = 3 ∷ 7 ∷ 6 ∷ []

-- K6 and K7: base masks 1, 2, 4, 8 and one more, at depths 0, 0, 0, 0, 2
abbrev masks_with : ℕ → List ℕ
masks_with mask = 1 ∷ 2 ∷ 4 ∷ 8 ∷ mask ∷ []

abbrev depths : List ℕ
depths = 0 ∷ 0 ∷ 0 ∷ 0 ∷ 2 ∷ []

abbrev base_with : ℕ → List Line
base_with mask = base_of (masks_with mask) depths

-- the same as a query, with n = 4
abbrev asked : ℕ → ℕ → ℕ → Result (Option ℕ) QueryRefusal
asked mask target D = answer_of 4 (masks_with mask) depths target D

-- and its lines
abbrev asked_lines : ℕ → ℕ → ℕ → List ℕ
asked_lines mask target D = lines_of 4 (masks_with mask) depths target D

-- K8: n = 2, table 0 0 0 1, one AND of lines 0 and 1, output 2, limits 1 1 1
abbrev calls8 : List Call
calls8 = opening (83 ∷ 72 ∷ 2 ∷ 1 ∷ 1 ∷ 71 ∷ 84 ∷ 2 ∷ 0 ∷ 1 ∷ 79 ∷ 80 ∷ 2 ∷ []) (brought false (0 ∷ 0 ∷ 0 ∷ 1 ∷ [])) (limits 1 1 1) ∷ []

-- K9: then the gate made NAND
abbrev calls9 : List Call
calls9 = calls8 ++ replacing 0 3 0 1 ∷ []

-- K10: then table entries 0 to 3 set to 1 1 1 0
abbrev three10 : List Call
three10 = calls9 ++ changing 0 1 0 ∷ changing 1 1 0 ∷ changing 2 1 0 ∷ []

abbrev calls10 : List Call
calls10 = three10 ++ changing 3 0 0 ∷ []

-- K11: n = 2, row 3 with constant 0, gates XOR(0,1), XOR(0,2), output 2, limits 2 1 0
abbrev calls11 : List Call
calls11 = opening (83 ∷ 72 ∷ 2 ∷ 1 ∷ 2 ∷ 71 ∷ 84 ∷ 0 ∷ 0 ∷ 1 ∷ 71 ∷ 84 ∷ 0 ∷ 0 ∷ 2 ∷ 79 ∷ 80 ∷ 2 ∷ []) (brought true (3 ∷ 0 ∷ [])) (limits 2 1 0) ∷ []

-- K12: then output 0 pointed at line 3
abbrev calls12 : List Call
calls12 = calls11 ++ pointing 0 3 ∷ []

-- a report of some gates, of which so many are of XOR type, nonlinear and NOT, with depth, AND depth and verdict
abbrev reporting : ℕ → ℕ → ℕ → ℕ → ℕ → ℕ → Verdict → Result Report Refusal
reporting g x a n d e v = Ok (record { gates = g; counts = record { xors = x; nonlinear = a; nots = n }; depth = d; and_depth = e; verdict = v })

abbrev wrong : ℕ → ℕ → Verdict
wrong x j = Wrong (record { input = x; output = j })

-- ---- the table

pub record Examples : Type 0 where
  -- K1: n=3, rows 3, 7, 6, D=2: the stored bytes, so gates (0,1), (2,3), (1,2), outputs 3, 4, 5
  pub K1 : stored (built 3 rows 2)
      ≡ 0x53 ∷ 0x48 ∷ 3 ∷ 3 ∷ 3 ∷ 0x47 ∷ 0x54 ∷ 0 ∷ 0 ∷ 1 ∷ 0x47 ∷ 0x54 ∷ 0 ∷ 2 ∷ 3 ∷ 0x47 ∷ 0x54 ∷ 0 ∷ 1 ∷ 2 ∷ 0x4F ∷ 0x50 ∷ 3 ∷ 0x4F ∷ 0x50 ∷ 4 ∷ 0x4F ∷ 0x50 ∷ 5 ∷ []
  -- K2: the same, D=3: the third gate is (0,4), depth 3
  pub K2 : (built 3 rows 3 ≡ listing 3 (xor_gate (xor 0 1) ∷ xor_gate (xor 2 3) ∷ xor_gate (xor 0 4) ∷ []) (3 ∷ 4 ∷ 5 ∷ []))
      × (depth_of (listing 3 (xor_gate (xor 0 1) ∷ xor_gate (xor 2 3) ∷ xor_gate (xor 0 4) ∷ []) (3 ∷ 4 ∷ 5 ∷ [])) ≡ 3)
  -- K3: the same, D=1: refused 10
  pub K3 : (refusal 3 rows 1 ≡ Err TooShallow) × (refusal_no TooShallow ≡ 10)
  -- K4: n=4, rows 7, 11, D=2: gates (0,1), (2,4), (3,4), outputs 5, 6
  pub K4 : built 4 (7 ∷ 11 ∷ []) 2 ≡ listing 4 (xor_gate (xor 0 1) ∷ xor_gate (xor 2 4) ∷ xor_gate (xor 3 4) ∷ []) (5 ∷ 6 ∷ [])
  -- K5: n=1, row 1, D=0
  pub K5 : stored (built 1 (1 ∷ []) 0) ≡ 0x53 ∷ 0x48 ∷ 1 ∷ 1 ∷ 0 ∷ 0x4F ∷ 0x50 ∷ 0 ∷ []
  -- none of K1, K2, K4 and K5 is refused
  pub built-all : (refusal 3 rows 2 ≡ done) × (refusal 3 rows 3 ≡ done) × (refusal 4 (7 ∷ 11 ∷ []) 2 ≡ done) × (refusal 1 (1 ∷ []) 0 ≡ done)
  -- K6: n=4, masks 1, 2, 4, 8, 7, target 15: D=3 gives 1, D=2 gives 3, D=1 none; by the definition, and as a query
  pub K6 : (distance 4 (base_with 7) 15 3 ≡ gates 1) × (distance 4 (base_with 7) 15 2 ≡ gates 3) × (distance 4 (base_with 7) 15 1 ≡ never)
  pub K6_asked : (asked 7 15 3 ≡ Ok (Some 1)) × (asked 7 15 2 ≡ Ok (Some 3)) × (asked 7 15 1 ≡ Ok None)
  -- and its lines (request 5): 8 and 7, the four inputs, none
  pub K6_lines : (asked_lines 7 15 3 ≡ 3 ∷ 4 ∷ []) × (asked_lines 7 15 2 ≡ 0 ∷ 1 ∷ 2 ∷ 3 ∷ []) × (asked_lines 7 15 1 ≡ [])
  -- K7: masks 1, 2, 4, 8, 15, target 7: D=3 gives 1, D=2 gives 2, D=1 none; the same
  pub K7 : (distance 4 (base_with 15) 7 3 ≡ gates 1) × (distance 4 (base_with 15) 7 2 ≡ gates 2) × (distance 4 (base_with 15) 7 1 ≡ never)
  pub K7_asked : (asked 15 7 3 ≡ Ok (Some 1)) × (asked 15 7 2 ≡ Ok (Some 2)) × (asked 15 7 1 ≡ Ok None)
  -- 8 and 15, three inputs, none
  pub K7_lines : (asked_lines 15 7 3 ≡ 3 ∷ 4 ∷ []) × (asked_lines 15 7 2 ≡ 0 ∷ 1 ∷ 2 ∷ []) × (asked_lines 15 7 1 ≡ [])
  -- K8: pass; depth 1, AND depth 1
  pub K8 : reported (present_after calls8) ≡ reporting 1 0 1 0 1 1 Pass
  -- K9: wrong at input 0, output 0; reworked line 2 only
  pub K9 : (reported (present_after calls9) ≡ reporting 1 0 1 0 1 1 (wrong 0 0))
      × (answer_no (gate_edit (present_after calls8) 0 3 0 1) ≡ 0) × ((listed_in (gate_edit (present_after calls8) 0 3 0 1)).count ≡ 1)
      × (get_or (listed_in (gate_edit (present_after calls8) 0 3 0 1)).lines 0 0 ≡ 2)
  -- K10: pass after the fourth, and not before
  pub K10 : (reported (present_after three10) ≡ reporting 1 0 1 0 1 1 (wrong 3 0)) × (reported (present_after calls10) ≡ reporting 1 0 1 0 1 1 Pass)
  -- K11: pass, depth 1: the second gate is deeper and feeds no output (request 2; 01 had it over the depth limit)
  pub K11 : reported (present_after calls11) ≡ reporting 2 2 0 0 1 0 Pass
  -- K12: wrong at input 1, output 0
  pub K12 : reported (present_after calls12) ≡ reporting 2 2 0 0 2 0 (wrong 1 0)

-- K1 to K5 are computed where the rule is open, the distances of K6 and K7 where the distance is; the rest here.
pub all_examples : Examples
unfolding count_of tally_of reads lines upto records listing_in shaped unread operands_fit gate_answer out_answer gate_record out_record answers body_answer reading_answer row_is_sound entry_fits all_of target_fits brought_fits on_row look_at answer_of least verdict_of report_of open_answer gate_edit_answer output_edit_answer entry_edit_answer places_from size_of
all_examples =
    record {
      K1 = building.k1;
      K2 = (building.k2, refl);
      K3 = (building.k3, refl);
      K4 = building.k4;
      K5 = building.k5;
      built-all = building.sound;
      K6 = distances.K6;
      K6_asked = (refl, refl, refl);
      K6_lines = distances.K6_lines;
      K7 = distances.K7;
      K7_asked = (refl, refl, refl);
      K7_lines = distances.K7_lines;
      K8 = refl;
      K9 = (refl, refl, refl, refl);
      K10 = (refl, refl);
      K11 = refl;
      K12 = refl;
    }
