-- Equation files: reading one is answered, and a refusal carries the number of its cause, 15 or 16 with the place, 17, 1, 11, and leaves the lent room as it
-- was; what is stored is the circuit that the file says, and opens but for its target. The causes in their order are `equations_table` in Tables.
use Rattle.std.specs.Prelude.{Ok, Err}
use mathlib.Core.Path.{◌≡◌, refl, sym, ap, ap₂, ◌∙◌, subst}
use mathlib.Core.Bool.{true, false, cond}
use mathlib.Core.Logic.{◌↔◌, ◌⊎◌, inl, inr, ⊎_elim}
use mathlib.Core.List.{List, [], ◌∷◌, ◌++◌}
use Prim.Native.Nat.{ℕ, ◌+◌, ◌*◌, ◌<◌}
use native.Mathlib.Omega.{arith}
use borrow.Author.Tests.{ne_eqb, le-ltb, ltb-false}
use lib.Dec.{eqb, ltb}
use lib.ListN.{length, take, drop}
use lib.Seq.{take_at, drop_at}
use Rattle.circuit.specs.declared.Refusal.{Refusal}
use Rattle.circuit.specs.Lines.{Listing, output_on}
use Rattle.circuit.specs.Structs.{listed}
use Rattle.circuit.specs.Rules.{Answer, done, refusal_no, answer_no}
use Rattle.stored.specs.Reading.{read_stored}
use Rattle.grammar.specs.File.{Assignment, File, Good}
use Rattle.grammar.proofs.Files.{file_unique}
use Rattle.place.proofs.Place.{read_good}
use Rattle.known.specs.Known.{NameFault}
use Rattle.drawing.specs.declared.Refusal.TheVariants.{BadText, BadName, NoOutputs, NotStored}
use Rattle.drawing.specs.Drawing.{Drawn, drawn_no, drawn_place, drawn_count, drawn_circuit, drawn_answer, drawn_bytes, room_drawn, EquationsPromise}
use Rattle.drawing.proofs.Rooms.{drawn-room, drawn_stored, drawn_refused}
use Rattle.meaning.specs.Meaning.{file_says, operators_in, sets_output, MadeOf}
use Rattle.meaning.proofs.Answers.{drawn, stored-says, stored-made, opens}
use Rattle.targets.specs.Target.{Brought}
use Rattle.bench.specs.Calls.{open_answer}
use Rattle.coded.specs.declared.ReadingNumbers.{ReadingNumbers}
use Rattle.coded.specs.Coded.{drawn_code, EquationsCode}
use Rattle.claims.proofs.Causes.{GivenExactly, Some}
use Rattle.claims.proofs.Tables.{BrokenTarget, SomeNonlinear, opened_table, BadTextAt, equations_table}
use Rattle.claims.proofs.Following.{opened_law}
use Rattle.claims.proofs.FilesFollow.{equations_law, text_law, name_law, enough_law}
use Rattle.claims.proofs.FirstDemand.{refusal_of, numbered, not-zero, not_of_files, stored-length}

done_zero : (a : Answer) → answer_no a ≡ 0 → a ≡ done
done_zero (Ok _) e = refl
done_zero (Err w) e = absurd (not-zero w e)

-- ---- The answer as it is

drawn_left : (d : Drawn) (bytes room : List ℕ) → (drawn_no d ≡ 0 → ⊥) → room_drawn d bytes room ≡ room
drawn_left (Ok k) bytes room some = absurd (some refl)
drawn_left (Err w) bytes room some = refl

drawn_among : (s : List ℕ) (room : ℕ) (d : Drawn) → drawn_answer s room ≡ d → Some (λ (n : ℕ). drawn_no d ≡ n) (0 ∷ 15 ∷ 16 ∷ 17 ∷ 1 ∷ 11 ∷ [])
drawn_among s room (Ok k) e = inl refl
drawn_among s room (Err (BadText place)) e = inr (inl refl)
drawn_among s room (Err (BadName place)) e = inr (inr (inl refl))
drawn_among s room (Err NoOutputs) e = inr (inr (inr (inl refl)))
drawn_among s room (Err (NotStored w)) e =
    inr (inr (inr (inr (⊎_elim (λ p. inl (ap refusal_no p)) (λ p. inr (inl (ap refusal_no p.0))) (drawn_refused s room w e)))))

module _ (s room : List ℕ) (r : Drawn) (out : List ℕ) (h : EquationsPromise s room r out) where
  held : out ≡ room_drawn r (drawn_bytes s) room
  held = h.bytes ∙ drawn-room s room ∙ ap (λ (d : Drawn). room_drawn d (drawn_bytes s) room) (sym h.answer)

  -- Each number is given exactly when the table says it: its cause is there, and none before it.
  pub equations_numbers : GivenExactly (drawn_no r) (equations_table s (length room))
  equations_numbers = subst (λ (d : Drawn). GivenExactly (drawn_no d) (equations_table s (length room))) (sym h.answer) (equations_law s (length room))

  -- 15 is given with p exactly where p is the first byte that no good text has there, and no name before it is at fault;
  pub equations_text_place : (p : ℕ) → (r ≡ Err (BadText p)) ↔ BadTextAt s p
  equations_text_place p = let w = text_law s (length room) p in (λ e. w.0 (sym h.answer ∙ e), λ c. h.answer ∙ w.1 c)

  -- 16 with q exactly where q is the last byte of the first name at fault, and all up to it begins a good text.
  pub equations_name_place : (q : ℕ) → (r ≡ Err (BadName q)) ↔ NameFault s q
  equations_name_place q = let w = name_law s (length room) q in (λ e. w.0 (sym h.answer ∙ e), λ c. h.answer ∙ w.1 c)

  -- No number but these is given,
  pub equations_among : Some (λ (n : ℕ). drawn_no r ≡ n) (0 ∷ 15 ∷ 16 ∷ 17 ∷ 1 ∷ 11 ∷ [])
  equations_among = drawn_among s (length room) r (sym h.answer)

  -- a refusal leaves each byte of the room,
  pub equations_refused : (drawn_no r ≡ 0 → ⊥) → out ≡ room
  equations_refused some = held ∙ drawn_left r (drawn_bytes s) room some

  -- and where the circuit is stored its bytes are first, as many as are counted, and the rest of the room is as it was.
  pub equations_stored : (k : ℕ) → r ≡ Ok k → (k ≡ length (drawn_bytes s)) × ((take k out ≡ drawn_bytes s) × (drop k out ≡ drop k room))
  equations_stored k e =
      let bytes = drawn_bytes s in
      let size = (drawn_stored s (length room) k (sym h.answer ∙ e)).0 in
      let first : out ≡ bytes ++ drop (length bytes) room = held ∙ ap (λ (d : Drawn). room_drawn d bytes room) e in (
        sym size,
        (
          ap (take k) first ∙ take_at bytes (drop (length bytes) room) k size,
          ap (drop k) first ∙ drop_at bytes (drop (length bytes) room) k size ∙ ap (λ (n : ℕ). drop n room) size,
        ),
      )

-- ---- The three numbers tell the answer.

abbrev drawn_of : ℕ → ℕ → ℕ → Drawn
drawn_of number count place =
    cond (eqb number 0) (Ok count)
    (cond (eqb number 15) (Err (BadText place))
    (cond (eqb number 16) (Err (BadName place))
    (cond (eqb number 17) (Err NoOutputs) (Err (NotStored (refusal_of number))))))

abbrev drawn_for : ReadingNumbers → Drawn
drawn_for r = drawn_of r.refusal r.count r.place

drawn-for : (d : Drawn) → drawn_for (drawn_code d) ≡ d
drawn-for (Ok k) = refl
drawn-for (Err (BadText place)) = refl
drawn-for (Err (BadName place)) = refl
drawn-for (Err NoOutputs) = refl
drawn-for (Err (NotStored w)) =
    let apart : (n : ℕ) → 13 < n → n < 18 → eqb (refusal_no w) n ≡ false = λ n h l. ne_eqb (refusal_no w) n (not_of_files w n h l) in
    rw (ne_eqb (refusal_no w) 0 (not-zero w), apart 15 (omega arith) (omega arith), apart 16 (omega arith) (omega arith), apart 17 (omega arith) (omega arith))
    (ap (λ (v : Refusal). Err (NotStored v)) (numbered w))

pub numbers_tell : (d e : Drawn) → drawn_code d ≡ drawn_code e → d ≡ e
numbers_tell d e h = sym (drawn-for d) ∙ ap drawn_for h ∙ drawn-for e

-- ---- How many bytes a room needs: 5, 5 for each operator and 3 for each output, where nothing but the room is refused.

-- what is below two numbers tells that they are equal
same_below : (m n : ℕ) → ((j : ℕ) → ltb j m ≡ ltb j n) → m ≡ n
same_below m n h = omega (arith, ltb-false n m (h n ∙ le-ltb n n (omega arith)), ltb-false m n (sym (h m) ∙ le-ltb m m (omega arith)))

pub equations_size : (s room : List ℕ) (r : Drawn) (out : List ℕ) → EquationsPromise s room r out → (drawn_no r ≡ 0) ⊎ (drawn_no r ≡ 11)
    → (l : List Assignment) → File s l → (m : ℕ) → ((j : ℕ) → sets_output s l j ≡ ltb j m) → length (drawn_bytes s) ≡ 5 + 5 * operators_in l + 3 * m
unfolding drawn_bytes
equations_size s room r out h w l file m outs =
    let size = length (drawn_bytes s) in
    let c = listed (drawn_circuit s) in
    let d = drawn_answer s size in
    let e : d ≡ Ok (drawn_count d) = sym (drawn-for d) ∙ ap (λ (n : ℕ). drawn_of n (drawn_count d) (drawn_place d)) (enough_law s (length room) (drawn_no r) w (ap drawn_no (sym h.answer))) in
    let made = stored-made s size (drawn_count d) e l file in
    stored-length c ∙ omega (arith, made.gates, same_below (length c.outs) m (λ j. sym (made.outs j) ∙ outs j))

-- ---- The same in numbers: the refusal's or 0, the count, the place.

drawn_counted : (d : Drawn) → (drawn_no d ≡ 0 → ⊥) → drawn_count d ≡ 0
drawn_counted (Ok k) some = absurd (some refl)
drawn_counted (Err w) some = refl

drawn_placed : (d : Drawn) → (drawn_no d ≡ 15 → ⊥) → (drawn_no d ≡ 16 → ⊥) → drawn_place d ≡ 0
drawn_placed (Ok k) text name = refl
drawn_placed (Err (BadText place)) text name = absurd (text refl)
drawn_placed (Err (BadName place)) text name = absurd (name refl)
drawn_placed (Err NoOutputs) text name = refl
drawn_placed (Err (NotStored w)) text name = refl

module _ (s room : List ℕ) (r : ReadingNumbers) (out : List ℕ) (h : EquationsCode s room r out) where
  -- the answer that the numbers stand for
  abbrev answer : Drawn
  answer = drawn_answer s (length room)

  by_value : EquationsPromise s room answer out
  by_value = record { answer = refl; bytes = h.bytes }

  number_is : r.refusal ≡ drawn_no answer
  number_is = ap (λ (x : ReadingNumbers). x.refusal) h.answer

  answer_is : answer ≡ drawn_for r
  answer_is = sym (drawn-for answer) ∙ ap drawn_for (sym h.answer)

  -- Each number is given exactly when the table says it; where it is not 0 each byte of the room is as it was and none is counted.
  pub equations_numbered : GivenExactly r.refusal (equations_table s (length room)) × ((r.refusal ≡ 0 → ⊥) → (out ≡ room) × (r.count ≡ 0))
  equations_numbered = (
    subst (λ (n : ℕ). GivenExactly n (equations_table s (length room))) (sym number_is) (equations_numbers s room answer out by_value),
    λ some.
        let bad : drawn_no answer ≡ 0 → ⊥ = λ z. some (number_is ∙ z) in
        (equations_refused s room answer out by_value bad, ap (λ (x : ReadingNumbers). x.count) h.answer ∙ drawn_counted answer bad),
  )

  -- No number but these is given.
  pub equations_among_numbered : Some (λ (n : ℕ). r.refusal ≡ n) (0 ∷ 15 ∷ 16 ∷ 17 ∷ 1 ∷ 11 ∷ [])
  equations_among_numbered =
      subst (λ (k : ℕ). Some (λ (n : ℕ). k ≡ n) (0 ∷ 15 ∷ 16 ∷ 17 ∷ 1 ∷ 11 ∷ [])) (sym number_is) (equations_among s room answer out by_value)

  -- an answer that has its place beside its number
  placed_numbered : (number p : ℕ) {P : Type 0} (at : Drawn) → (answer ≡ at) ↔ P → drawn_of number r.count p ≡ at → drawn_no at ≡ number → drawn_place at ≡ p
      → ((r.refusal ≡ number) × (r.place ≡ p)) ↔ P
  placed_numbered number p at w tells is place = (
    λ e. w.0 (answer_is ∙ ap₂ (λ (n q : ℕ). drawn_of n r.count q) e.0 e.1 ∙ tells),
    λ c. let q = h.answer ∙ ap drawn_code (w.1 c) in (ap (λ (x : ReadingNumbers). x.refusal) q ∙ is, ap (λ (x : ReadingNumbers). x.place) q ∙ place),
  )

  -- 15 has the place beside it that is given exactly as above,
  pub equations_text_place_numbered : (p : ℕ) → ((r.refusal ≡ 15) × (r.place ≡ p)) ↔ BadTextAt s p
  equations_text_place_numbered p = placed_numbered 15 p (Err (BadText p)) (text_law s (length room) p) refl refl refl

  -- 16 likewise,
  pub equations_name_place_numbered : (q : ℕ) → ((r.refusal ≡ 16) × (r.place ≡ q)) ↔ NameFault s q
  equations_name_place_numbered q = placed_numbered 16 q (Err (BadName q)) (name_law s (length room) q) refl refl refl

  -- and no other number has one.
  pub equations_place : (r.refusal ≡ 15 → ⊥) → (r.refusal ≡ 16 → ⊥) → r.place ≡ 0
  equations_place text name =
      ap (λ (x : ReadingNumbers). x.place) h.answer ∙ drawn_placed answer (λ z. text (number_is ∙ z)) (λ z. name (number_is ∙ z))

  -- Where the number is 0 the circuit is stored, in as many bytes as are counted: what is said below of a promise is so of the numbers.
  pub equations_stored_numbered : r.refusal ≡ 0 → EquationsPromise s room (Ok r.count) out
  equations_stored_numbered e = record { answer = sym (answer_is ∙ ap (λ (n : ℕ). drawn_of n r.count r.place) e); bytes = h.bytes }

-- ---- What is stored: the circuit that the file says.

-- A text has one reading at most.
pub reading_unique : (s : List ℕ) (l m : List Assignment) → File s l → File s m → l ≡ m
reading_unique = file_unique

module _ (s room : List ℕ) (r : Drawn) (out : List ℕ) (h : EquationsPromise s room r out) (k : ℕ) (e : r ≡ Ok k) where
  stored_so : drawn_answer s (length room) ≡ Ok k
  stored_so = sym h.answer ∙ e

  -- Where a circuit is stored the text has a reading,
  pub read_file : Good s
  read_file = let d = drawn s (length room) k stored_so in read_good s d.end d.read

  bytes_read : read_stored false (take k out) ≡ Ok (listed (drawn_circuit s))
  bytes_read = ap (read_stored false) (equations_stored s room r out h k e).1.0 ∙ opens s (length room) k stored_so

  -- and the bytes that are written first in the room read back as a circuit.
  pub read_back : (c : Listing) × (read_stored false (take k out) ≡ Ok c)
  read_back = (listed (drawn_circuit s), bytes_read)

  module _ (c : Listing) (back : read_stored false (take k out) ≡ Ok c) where
    circuit_is : listed (drawn_circuit s) ≡ c
    circuit_is = let q : Ok (listed (drawn_circuit s)) ≡ Ok c = sym bytes_read ∙ back in cc

    -- On each input value each output of the circuit gives what the file says of it,
    pub read_says : (l : List Assignment) → File s l → (x j : ℕ) → j < length c.outs → output_on c x j ≡ file_says s l x j
    read_says l file x j = subst (λ (d : Listing). j < length d.outs → output_on d x j ≡ file_says s l x j) circuit_is (stored-says s (length room) k stored_so l file x j)

    -- it is made of what the file is made of, its inputs, a gate for each operator and its outputs,
    pub read_made : (l : List Assignment) → File s l → MadeOf s l c
    read_made l file = subst (MadeOf s l) circuit_is (stored-made s (length room) k stored_so l file)

    -- and no open refuses the bytes but for its target: under a matrix for a nonlinear gate (7), and for the target's own rule (8).
    pub read_opens : (t : Brought) → GivenExactly (answer_no (open_answer (take k out) t)) (opened_table c t)
    read_opens = opened_law (take k out) c back

    -- So a table that keeps its rule opens, and a matrix that does where no gate is nonlinear.
    pub read_opened : (t : Brought) → (t.of_matrix ≡ true → SomeNonlinear c → ⊥) → (BrokenTarget c.inputs (length c.outs) t → ⊥) → open_answer (take k out) t ≡ done
    read_opened t linear fits = done_zero (open_answer (take k out) t) ((read_opens t 0).1 (inr (λ x. linear x.0 x.1, inr (fits, refl))))
