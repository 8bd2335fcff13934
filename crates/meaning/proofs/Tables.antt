-- The rows of a book, one for each name that was set, in the order of the assignments.
use Rattle.std.specs.Prelude.{Some, None}
use mathlib.Core.Path.{◌≡◌, sym, ap, ap₂, subst, ◌∙◌}
use mathlib.Core.Logic.{◌⊎◌, inl, inr, ⊎_elim}
use mathlib.Core.List.{List, ◌∷◌, [], ◌++◌, map, append_assoc, append-nil}
use Prim.Native.Nat.{ℕ, ◌-◌, ◌≤◌, ◌<◌}
use native.Mathlib.Omega.{arith}
use lib.ListN.{length, get_or, set}
use lib.Seq.{get_or-set_same, get_or-set_other}
use Rattle.circuit.specs.Lines.{upto}
use Rattle.circuit.proofs.LineLaws.{place}
use Rattle.circuit.proofs.Upto.{upto-suc, upto_same}
use Rattle.formula.specs.Sizes.{most_names, longest}
use Rattle.formula.specs.Text.{word_end}
use Rattle.formula.specs.Names.{input_of}
use Rattle.formula.specs.Emit.{gates_of, line_of}
use Rattle.formula.specs.declared.Gates.{Gates}
use Rattle.grammar.specs.File.{Assignment}
use Rattle.sheet.specs.declared.Book.{Book}
use Rattle.sheet.specs.Sheet.{set_name}
use Rattle.known.proofs.Keys.{same_input}
use Rattle.known.proofs.Table.{start_of, Sized, Table, Entered, look_entered}
use Rattle.meaning.proofs.Rows.{look_for, with_name, Leads, done, then}

-- the name at `start` has this line
pub record Row : Type 0 where
  pub start : ℕ
  pub line : ℕ

-- row i of a book
abbrev pub row_at : Book → ℕ → Row
row_at b i = record { start = start_of b i; line = get_or b.names.lines i 0 }

-- each row of a book has this
abbrev pub Each : (Row → Type 0) → Book → Type 0
Each P b = (i : ℕ) → i < b.names.n → P (row_at b i)

-- the places of the names, in order
abbrev pub starts_of : Book → List ℕ
starts_of b = upto (start_of b) b.names.n

-- the names that some assignments set, in order
abbrev pub names_of : List Assignment → List ℕ
names_of l = map (λ (a : Assignment). a.name) l

-- ---- one name more

module _ (s : List ℕ) (b : Book) (sized : Sized b) (room : b.names.n < most_names) (g : Gates) (p v : ℕ) where
  row_old : (i : ℕ) → i < b.names.n → row_at (set_name s b g p v) i ≡ row_at b i
  row_old i h = let x = other b.starts p in let y = other b.names.lines v in λ j. record { start = x j; line = y j }
    where
      other : (l : List ℕ) (x : ℕ) → get_or (set l b.names.n x) i 0 ≡ get_or l i 0
      other l x = get_or-set_other l b.names.n i x 0 (λ e. absurd (omega arith))

  row_new : row_at (set_name s b g p v) b.names.n ≡ record { start = p; line = v }
  row_new = let x = same b.starts p sized.starts in let y = same b.names.lines v sized.lines in λ j. record { start = x j; line = y j }
    where
      same : (l : List ℕ) (x : ℕ) → length l ≡ most_names → get_or (set l b.names.n x) b.names.n 0 ≡ x
      same l x e = get_or-set_same l b.names.n x 0 (omega arith)

  -- what each row has, and the new one
  pub each_set : (P : Row → Type 0) → Each P b → P (record { start = p; line = v }) → Each P (set_name s b g p v)
  each_set P old new i h =
      ⊎_elim (λ l. subst P (sym (row_old i l)) (old i l)) (⊎_elim (λ e. subst P (sym (ap (row_at (set_name s b g p v)) e ∙ row_new)) new) (λ l. absurd (omega arith))) (place i b.names.n)

  starts_set : starts_of (set_name s b g p v) ≡ starts_of b ++ (p ∷ [])
  starts_set =
      let c = set_name s b g p v in
      upto-suc (start_of c) b.names.n
      ∙ ap₂ (λ (l : List ℕ) (x : ℕ). l ++ (x ∷ [])) (upto_same (start_of c) (start_of b) b.names.n (λ i h. ap (λ (r : Row). r.start) (row_old i h))) (ap (λ (r : Row). r.start) row_new)

-- ---- all of them

-- the rows are those of the names that the assignments set, in their order
pub leads_names : (s : List ℕ) (b e : Book) (l : List Assignment) → Leads s b l e → starts_of e ≡ starts_of b ++ names_of l
leads_names s b e l (done) = sym (append-nil (starts_of b))
leads_names s b e l (then {a = a} {l = k} t new i r) =
    leads_names s (with_name s b a.name t) e k r
    ∙ ap (λ (x : List ℕ). x ++ names_of k) (starts_set s b new.table.sized new.room (gates_of t b.gates) a.name (line_of t b.gates))
    ∙ append_assoc (starts_of b) (a.name ∷ []) (names_of k)

-- ---- what a table knows

-- the name at a is no input, and was set: v is the line of its row
pub record SetRow (s : List ℕ) (b : Book) (a v : ℕ) : Type 0 where
  pub none : input_of s a (word_end s a) ≡ None
  pub entered : Entered s b a v

-- a name that a table knows, and that is short enough, is an input or was set
pub known_row : (s : List ℕ) (p : ℕ) (b : Book) → Table s p b → (a v : ℕ) → word_end s a - a ≤ longest → look_for s b a (word_end s a) ≡ Some v
    → (input_of s a (word_end s a) ≡ Some v) ⊎ SetRow s b a v
known_row s p b t a v short e =
    ⊎_elim inl (λ r. inr (record { none = sym (same_input s (start_of b r.i) a r.same) ∙ (t.entry r.i r.within).plain; entered = r }))
    (look_entered s p b t a (omega arith) v e)
