-- The answers to an equation file follow its table: the law that a number is given exactly when the table says so.
use Rattle.std.specs.Prelude.{Result, Ok, Err}
use mathlib.Core.Path.{◌≡◌, refl, sym, ap, ◌∙◌, subst}
use mathlib.Core.Bool.{Bool, true, cond}
use mathlib.Core.Logic.{◌↔◌, ◌⊎◌, inl, inr, ⊎_elim}
use mathlib.Core.List.{List}
use Prim.Native.Nat.{ℕ, ◌<◌}
use native.Mathlib.Omega.{arith}
use lib.ListN.{length}
use Rattle.circuit.specs.Structs.{listed}
use Rattle.circuit.specs.Rules.{answer_no, shaped}
use Rattle.stored.specs.Stored.{stored}
use Rattle.stored.specs.Writing.{Writing, write_answer}
use Rattle.formula.specs.declared.Why.{Why}
use Rattle.formula.specs.declared.Why.TheVariants.{Text, Name}
use Rattle.grammar.specs.File.{Assignment, File}
use Rattle.sheet.specs.declared.Book.{Book}
use Rattle.sheet.specs.Sheet.{file_of}
use Rattle.drawing.specs.declared.Refusal.TheVariants.{BadText, BadName, NoOutputs}
use Rattle.drawing.specs.Drawing.{Drawn, drawn_no, drawn_place, circuit_or, whole_book, circuit_in, sketch_book, sketch_by, sketch_of, written_as, answer_by, drawn_answer, drawn_bytes}
use Rattle.place.proofs.Place.{read_good, text_place}
use Rattle.known.specs.Known.{NameFault}
use Rattle.known.proofs.Words.{clash}
use Rattle.known.proofs.Fault.{name_fault, text_clean, text_exactly, name_exactly}
use Rattle.meaning.specs.Meaning.{sets_output}
use Rattle.meaning.proofs.Refused.{whole_input, whole_first, whole_below, broken, sizes}
use Rattle.claims.proofs.Causes.{first, accepted, GivenExactly, hit, miss, past_cause, own_cause, Fails, fails_as, chain_under}
use Rattle.claims.proofs.Tables.{OutOfRange, BadTextAt, NotWhole, TooLarge, OfReading, equations_table}
use Rattle.claims.proofs.Following.{range_law, write_law}

writing_drawn : (w : Writing) → answer_no w ≡ drawn_no (written_as w)
writing_drawn (Ok k) = refl
writing_drawn (Err w) = refl

module _ (s : List ℕ) where
  abbrev b : Book
  b = (file_of s).book

  -- where the reader gives another answer the text is not bad, and no name is at fault
  no_text : (x : Result ℕ Why) → (file_of s).step ≡ x → ((p : ℕ) → x ≡ Err (Text p) → ⊥) → (p : ℕ) × BadTextAt s p → ⊥
  no_text x e none c = none c.0 (sym e ∙ text_exactly s c.0 c.1.0 c.1.1)

  no_name : (x : Result ℕ Why) → (file_of s).step ≡ x → ((q : ℕ) → x ≡ Err (Name q) → ⊥) → (q : ℕ) × NameFault s q → ⊥
  no_name x e none c = none c.0 (sym e ∙ name_exactly s c.0 c.1)

  -- ---- a file that was read

  module _ (q : ℕ) (read : (file_of s).step ≡ Ok q) where
    -- its book is whole exactly where its reading is
    whole_fails : Fails (whole_book s b) (OfReading s (NotWhole s))
    whole_fails = record { holds = λ e. let g = read_good s q read in (g.reading, g.file, broken s g.reading g.file q read e); not_else = λ ok c. by c.0 c.1 ok c.2 }
      where
        by : (l : List Assignment) → File s l → whole_book s b ≡ true → NotWhole s l → ⊥
        by l file ok (inl h) = omega (arith, whole_input s l file q read ok)
        by l file ok (inr (inl h)) = clash (sets_output s l 0) (whole_first s l file q read ok) (h 0)
        by l file ok (inr (inr h)) = clash (sets_output s l h.0) (whole_below s l file q read ok h.0 h.1 h.2 h.4) h.3

    -- whose circuit is too large exactly where its reading is
    shape_fails : whole_book s b ≡ true → let c = circuit_in s b in Fails (shaped c.n c.m c.g) (OfReading s (TooLarge s))
    shape_fails ok = let c = circuit_in s b in fails_as into (λ x. back x.0 x.1 x.2) (range_law c.n c.m c.g)
      where
        into : let c = circuit_in s b in OutOfRange c.n c.m c.g → OfReading s (TooLarge s)
        into h = let g = read_good s q read in (g.reading, g.file, by g.reading g.file h)
          where
            by : (l : List Assignment) → File s l → let c = circuit_in s b in OutOfRange c.n c.m c.g → TooLarge s l
            by l file (inl h) = absurd (omega (arith, (sizes s l file q read ok).inputs-least))
            by l file (inr (inl h)) = absurd (omega (arith, (sizes s l file q read ok).inputs_most))
            by l file (inr (inr (inl h))) = absurd (omega (arith, (sizes s l file q read ok).outputs_least))
            by l file (inr (inr (inr (inl h)))) = inr ((sizes s l file q read ok).outputs_many.0 h)
            by l file (inr (inr (inr (inr h)))) = inl ((sizes s l file q read ok).gates_many.0 h)

        back : (l : List Assignment) → File s l → TooLarge s l → let c = circuit_in s b in OutOfRange c.n c.m c.g
        back l file (inl h) = inr (inr (inr (inr ((sizes s l file q read ok).gates_many.1 h))))
        back l file (inr h) = inr (inr (inr (inl ((sizes s l file q read ok).outputs_many.1 h))))

    -- the circuit of the file
    circuit_is : whole_book s b ≡ true → stored (listed (circuit_in s b)) ≡ drawn_bytes s
    unfolding drawn_bytes sketch_of sketch_book
    circuit_is ok =
        ap (λ (t : Bool). stored (listed (circuit_or (cond t (Ok (circuit_in s b)) (Err NoOutputs))))) (sym ok)
        ∙ ap (λ (x : Result ℕ Why). stored (listed (circuit_or (sketch_by s b x)))) (sym read)

    -- storing is refused for 1, and 11
    written_law : (room : ℕ) → whole_book s b ≡ true
        → GivenExactly (drawn_no (written_as (write_answer (circuit_in s b) room))) (first 1 (OfReading s (TooLarge s)) (first 11 (room < length (drawn_bytes s)) accepted))
    written_law room ok =
        subst (λ (n : ℕ). GivenExactly n (first 1 (OfReading s (TooLarge s)) (first 11 (room < length (drawn_bytes s)) accepted))) (writing_drawn (write_answer (circuit_in s b) room))
        (subst (λ (bytes : List ℕ). GivenExactly (answer_no (write_answer (circuit_in s b) room)) (first 1 (OfReading s (TooLarge s)) (first 11 (room < length bytes) accepted))) (circuit_is ok)
        (write_law (circuit_in s b) room (shape_fails ok)))

  -- ---- any text

  -- each number is given exactly when the table says it
  pub equations_law : (room : ℕ) → GivenExactly (drawn_no (drawn_answer s room)) (equations_table s room)
  unfolding drawn_answer sketch_of sketch_book
  equations_law room = by (file_of s).step refl
    where
      -- by what the book was found to be
      told : Bool → ℕ
      told t = drawn_no (answer_by (cond t (Ok (circuit_in s b)) (Err NoOutputs)) room)

      by : (x : Result ℕ Why) → (file_of s).step ≡ x → GivenExactly (drawn_no (answer_by (sketch_by s b x) room)) (equations_table s room)
      by (Err (Text p)) e = hit 15 _ (p, (text_place s p e, text_clean s p e))
      by (Err (Name q)) e =
          miss 15 16 _ (no_text (Err (Name q)) e (λ p k. let z : ◌≡◌ {A = ℕ} 0 1 = cc in omega arith)) (hit 16 _ (q, name_fault s q e))
      by (Ok q) e =
          miss 15 _ _ (no_text (Ok q) e (λ p k. let z : ◌≡◌ {A = ℕ} 0 1 = cc in omega arith))
          (miss 16 _ _ (no_name (Ok q) e (λ p k. let z : ◌≡◌ {A = ℕ} 0 1 = cc in omega arith)) (chain_under told (whole_fails q e) (written_law q e room)))

  -- ---- where 15 and 16 are given

  step_told : (x : Result ℕ Why) → (file_of s).step ≡ x → (room : ℕ) → drawn_answer s room ≡ answer_by (sketch_by s b x) room
  unfolding drawn_answer sketch_of
  step_told x e room = ap (λ (y : Result ℕ Why). answer_by (sketch_by s b y) room) e

  module _ (room : ℕ) where
    -- an answer that is given at each place with P, and where there is one, is given at p exactly when p has P
    placed : (at : ℕ → Drawn) (P : ℕ → Type 0) → ((p : ℕ) → drawn_place (at p) ≡ p) → ((p : ℕ) → P p → drawn_answer s room ≡ at p)
        → ((p : ℕ) → drawn_answer s room ≡ at p → (q : ℕ) × P q) → (p : ℕ) → (drawn_answer s room ≡ at p) ↔ P p
    placed at P tells given some p =
        (λ e. let c = some p e in subst P (sym (tells c.0) ∙ ap drawn_place (sym (given c.0 c.1) ∙ e) ∙ tells p) c.1, given p)

    -- 15 is given with p exactly where the text is bad at p
    pub text_law : (p : ℕ) → (drawn_answer s room ≡ Err (BadText p)) ↔ BadTextAt s p
    text_law =
        placed (λ p. Err (BadText p)) (BadTextAt s) (λ p. refl) (λ p c. step_told (Err (Text p)) (text_exactly s p c.0 c.1) room)
        (λ p e. own_cause (λ r.
        let a = past_cause (λ k. omega arith) r in
        let b = past_cause (λ k. omega arith) a.1 in
        let c = past_cause (λ k. omega arith) b.1 in
        omega (arith, (past_cause (λ k. omega arith) c.1).1)) ((equations_law room 15).0 (ap drawn_no e)))

    -- 16 with q exactly where the first name at fault ends with q
    pub name_law : (q : ℕ) → (drawn_answer s room ≡ Err (BadName q)) ↔ NameFault s q
    name_law =
        placed (λ q. Err (BadName q)) (NameFault s) (λ q. refl) (λ q c. step_told (Err (Name q)) (name_exactly s q c) room)
        (λ q e. own_cause (λ r.
        let a = past_cause (λ k. omega arith) r in
        let b = past_cause (λ k. omega arith) a.1 in
        omega (arith, (past_cause (λ k. omega arith) b.1).1)) (past_cause (λ k. omega arith) ((equations_law room 16).0 (ap drawn_no e))).1)

    -- where no cause but the room is there, a room as long as the bytes is enough
    pub enough_law : (n : ℕ) → (n ≡ 0) ⊎ (n ≡ 11) → drawn_no (drawn_answer s room) ≡ n → drawn_no (drawn_answer s (length (drawn_bytes s))) ≡ 0
    enough_law n w e =
        let a = past_cause (λ k. ⊎_elim (λ z. omega arith) (λ z. omega arith) w) ((equations_law room n).0 e) in
        let b = past_cause (λ k. ⊎_elim (λ z. omega arith) (λ z. omega arith) w) a.1 in
        let c = past_cause (λ k. ⊎_elim (λ z. omega arith) (λ z. omega arith) w) b.1 in
        let d = past_cause (λ k. ⊎_elim (λ z. omega arith) (λ z. omega arith) w) c.1 in
        (equations_law (length (drawn_bytes s)) 0).1 (inr (a.0, inr (b.0, inr (c.0, inr (d.0, inr (λ h. omega arith, refl))))))
