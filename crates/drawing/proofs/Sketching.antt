-- The ways from a file to its circuit and to its stored bytes.
use mathlib.Core.Path.{◌≡◌, refl, ap, ◌∙◌}
use mathlib.Core.Bool.{Bool, true, false}
use mathlib.Core.List.{List}
use Rattle.std.specs.Prelude.{Result, Ok, Err}
use Prim.Native.Nat.{ℕ}
use native.Mathlib.Omega.{arith}
use lib.ListN.{length, get_or}
use Rattle.circuit.specs.declared.Circuit.{Circuit}
use Rattle.circuit.specs.Sizes.{most_outputs, most_gates}
use Rattle.circuit.specs.Lines.{upto}
use Rattle.circuit.specs.Structs.{listed}
use Rattle.stored.specs.Stored.{stored}
use Rattle.stored.specs.Writing.{Writing, write_answer, room_after, Wrote}
use Rattle.formula.specs.declared.Why.{Why}
use Rattle.sheet.specs.declared.Book.{Book}
use Rattle.sheet.specs.Sheet.{file_of, book_by, book_of}
use Rattle.drawing.specs.declared.Refusal.{Refusal}
use Rattle.drawing.specs.declared.Refusal.TheVariants.{NoOutputs}
use Rattle.drawing.specs.Outputs.{out_line, line_or0, top_of, whole_of}
use Rattle.drawing.specs.Numbering.{shift_of, few_outputs, circuit_of}
use Rattle.drawing.specs.Drawing.{Drawn, refused_for, numbers_in, sketch_book, sketch_by, sketch_of, circuit_or, written_as, answer_by, drawn_answer, drawn_bytes, room_drawn, drawn_room, EquationsPromise}

-- ---- the circuit

module _ (xs : List ℕ) (b : Book) where
  pub circuit_is : (n t m : ℕ) (l r o : List ℕ) → n ≡ b.gates.high → t ≡ top_of xs b.names.n → m ≡ few_outputs t
      → l ≡ upto (λ (k : ℕ). shift_of b.gates.high (get_or b.gates.left k 0)) most_gates → r ≡ upto (λ (k : ℕ). shift_of b.gates.high (get_or b.gates.right k 0)) most_gates
      → o ≡ upto (λ (j : ℕ). shift_of b.gates.high (line_or0 (out_line xs b.names.lines b.names.n j))) most_outputs
      → record { n = n; m = m; g = b.gates.count; kinds = b.gates.kinds; left = l; right = r; outputs = o } ≡ circuit_of xs b
  unfolding circuit_of
  circuit_is n t m l r o en et em el er eo = rw (en, em, et, el, er, eo)

module _ (s : List ℕ) (b : Book) (xs : List ℕ) (ex : xs ≡ numbers_in s b) (w : Bool) (ew : w ≡ whole_of xs b.names.lines b.names.n b.gates.high) where
  pub sketch_gap : w ≡ false → Err NoOutputs ≡ sketch_book s b
  unfolding sketch_book
  sketch_gap h = rw (← ex, ← ew, h)

  pub sketch_whole : (c : Circuit) → w ≡ true → c ≡ circuit_of xs b → Ok c ≡ sketch_book s b
  unfolding sketch_book
  sketch_whole c h e = rw (e, ← ex, ← ew, h)

-- a file that was read, or not
pub sketch_on : (s : List ℕ) (b : Book) (q : ℕ) → Ok (b, q) ≡ book_of s → sketch_book s b ≡ sketch_of s
unfolding sketch_of
sketch_on s b q e = by (file_of s).step e
  where
    by : (r : Result ℕ Why) → Ok (b, q) ≡ book_by (file_of s).book r → sketch_book s b ≡ sketch_by s (file_of s).book r
    by (Ok p) e = let k : (b, q) ≡ ((file_of s).book, p) = cc in ap (λ (x : Book × ℕ). sketch_book s x.0) k
    by (Err w) e = let z : ◌≡◌ {A = ℕ} 0 1 = cc in absurd (omega arith)

pub sketch_no : (s : List ℕ) (w : Why) → Err w ≡ book_of s → Err (refused_for w) ≡ sketch_of s
unfolding sketch_of
sketch_no s w e = by (file_of s).step e
  where
    by : (r : Result ℕ Why) → Err w ≡ book_by (file_of s).book r → Err (refused_for w) ≡ sketch_by s (file_of s).book r
    by (Ok q) e = let z : ◌≡◌ {A = ℕ} 0 1 = cc in absurd (omega arith)
    by (Err u) e = let k : w ≡ u = cc in ap (λ (x : Why). Err (refused_for x)) k

-- ---- the answer and the room

room_by : (w : Writing) (bytes room : List ℕ) → room_after w bytes room ≡ room_drawn (written_as w) bytes room
room_by (Ok k) bytes room = refl
room_by (Err w) bytes room = refl

module _ (s room : List ℕ) where
  -- a file that has no circuit leaves the room as it was
  pub drawn_none : (w : Refusal) → Err w ≡ sketch_of s → EquationsPromise s room (Err w) room
  unfolding drawn_answer drawn_room
  drawn_none w e =
      let q : Err w ≡ answer_by (sketch_of s) (length room) = ap (λ (r : Result Circuit Refusal). answer_by r (length room)) e in
      record { answer = q; bytes = ap (λ (x : Drawn). room_drawn x (drawn_bytes s) room) q }

  pub drawn_written : (c : Circuit) (w : Writing) (r : Drawn) (out : List ℕ) → Ok c ≡ sketch_of s → Wrote c room w out → r ≡ written_as w → EquationsPromise s room r out
  unfolding drawn_answer drawn_room drawn_bytes
  drawn_written c w r out e h er =
      let q : written_as (write_answer c (length room)) ≡ answer_by (sketch_of s) (length room) = ap (λ (r : Result Circuit Refusal). answer_by r (length room)) e in
      let k : stored (listed c) ≡ drawn_bytes s = ap (λ (r : Result Circuit Refusal). stored (listed (circuit_or r))) e in
      record {
        answer = er ∙ ap written_as h.answer ∙ q;
        bytes = h.bytes ∙ room_by (write_answer c (length room)) (stored (listed c)) room
            ∙ ap (λ (x : Drawn). room_drawn x (stored (listed c)) room) q
            ∙ ap (λ (x : List ℕ). room_drawn (answer_by (sketch_of s) (length room)) x room) k;
      }
