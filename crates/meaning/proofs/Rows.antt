-- A file that was read is its assignments in order: each sets a new name, whose line is that of the gates of its formula.
use Rattle.std.specs.Prelude.{Option, None, Ok}
use mathlib.Core.Path.{◌≡◌, refl, sym, subst, ◌∙◌}
use mathlib.Core.Bool.{true, false}
use mathlib.Core.List.{List, [], ◌∷◌}
use Prim.Native.Nat.{ℕ, suc, ◌+◌, ◌-◌, ◌≤◌, ◌<◌}
use native.Mathlib.Omega.{arith}
use lib.ListN.{length, get_or}
use Rattle.formula.specs.Sizes.{most_names, longest, nesting}
use Rattle.formula.specs.Text.{seen, in_class, skip_of, word_end}
use Rattle.formula.specs.Tree.{Tree}
use Rattle.formula.specs.Names.{look_up}
use Rattle.formula.specs.Emit.{gates_of, line_of}
use Rattle.formula.specs.declared.Class.TheVariants.{Letter}
use Rattle.formula.proofs.Laws.{past_in, seen_in}
use Rattle.grammar.specs.File.{sign_after, Assignment, Assigns, Lines, over, blank, assigned, File}
use Rattle.grammar.proofs.Bytes.{past_hits, letter_not, byte_seen}
use Rattle.grammar.proofs.Unique.{got_is}
use Rattle.grammar.proofs.Files.{assigns_found}
use Rattle.sheet.specs.declared.Book.{Book}
use Rattle.sheet.specs.Sheet.{no_book, set_name, Sheet, file_of}
use Rattle.sheet.proofs.Shape.{Made}
use Rattle.known.proofs.Words.{clash}
use Rattle.known.proofs.Table.{Table}
use Rattle.known.proofs.Along.{Starts, file_by}
use Rattle.known.proofs.Naming.{Before, before_none, before_blank, before_made}
use Rattle.meaning.proofs.Twins.{Lined, twin}

module _ (s : List ℕ) where
  -- what the table of a book knows of the name from one place to another
  abbrev pub look_for : Book → ℕ → ℕ → Option ℕ
  look_for b = look_up s b.names.low b.names.high b.names.lines b.names.n

  -- a book with one assignment more: the name at p, which is the formula t
  abbrev pub with_name : Book → ℕ → Tree → Book
  with_name b p t = set_name s b (gates_of t b.gates) p (line_of t b.gates)

  -- the name at p, which is short enough, is not known after a book of the names before, and there is room for it
  pub record New (b : Book) (p : ℕ) : Type 0 where
    pub line : ℕ
    pub table : Table s line b
    pub room : b.names.n < most_names
    pub short : word_end s p - p ≤ longest
    pub unknown : look_for b p (word_end s p) ≡ None

  -- from one book some assignments lead to another
  pub data Leads : Book → List Assignment → Book → Type 0 where
    done : {b : Book} → Leads b [] b
    then : {b e : Book} {a : Assignment} {l : List Assignment} (t : Tree) → New b a.name → Lined s (look_for b) a.formula t
        → Leads (with_name b a.name t) l e → Leads b (a ∷ l) e

  -- an assignment that was read is that of the grammar, and goes on where that does
  record Same (p u z : ℕ) (b : Book) (t : Tree) (a : Assignment) : Type 0 where
    place : u ≡ z
    lined : Lined s (look_for b) a.formula t

  same : (p u z : ℕ) (b : Book) (a : Assignment) (m : Made s p u b) → Assigns s p z a → Same p u z b m.tree a
  same p u z b a m w =
      let x = twin s (look_for b) nesting (sign_after s p + 1) u m.tree m.read in
      got_is (λ y t. Same p u y b m.tree (record { name = a.name; formula = t })) u z x.tree a.formula (sym x.reads ∙ assigns_found s p z a w)
      (record { place = refl; lined = x.lined })

  -- where an assignment begins a letter stands, so the text is not at its end, nor a line at its own
  begins : (q z : ℕ) (a : Assignment) → Assigns s q z a → Starts s q
  begins q z a w =
      let h : q < length s = omega (arith, w.some, past_in (in_class Letter) s q (word_end s q) refl w.some) in
      record { within = h; no_line = byte_seen s q 10 false h (letter_not (get_or s q 0) 10 (past_hits (in_class Letter) s q q (omega arith) w.some) (omega arith)) }

  -- ---- along the file

  module _ (l : List Assignment) where
    -- from p on the text is the assignments `rest`, and where they lead to from b the file leads to
    record Ahead (p : ℕ) (b : Book) : Type 0 where
      before : Before s p b
      count : ℕ
      rest : List Assignment
      lines : Lines s count p rest
      leads : (e : Book) → Leads b rest e → Leads no_book l e

    at_end : (p : ℕ) (b : Book) → Ahead p b → length s ≤ skip_of s p → Leads no_book l b
    at_end p b x h = by x.count x.rest x.lines x.leads
      where
        by : (c : ℕ) (k : List Assignment) → Lines s c p k → ((e : Book) → Leads b k e → Leads no_book l e) → Leads no_book l b
        by c k (over e) on = on b done
        by c k (blank e w) on = absurd (omega (arith, seen_in s (skip_of s p) 10 e))
        by c k (assigned {z = z} {a = a} m w r) on = absurd (omega (arith, (begins (skip_of s p) z a w).within))

    at_blank : (p : ℕ) (b : Book) → Ahead p b → seen s (skip_of s p) 10 ≡ true → Ahead (skip_of s p + 1) b
    at_blank p b x h = by x.count x.rest x.lines x.leads
      where
        by : (c : ℕ) (k : List Assignment) → Lines s c p k → ((e : Book) → Leads b k e → Leads no_book l e) → Ahead (skip_of s p + 1) b
        by c k (over e) on = absurd (omega (arith, seen_in s (skip_of s p) 10 h))
        by c k (blank e w) on = record { before = before_blank s p b x.before h; count = c; rest = k; lines = w; leads = on }
        by c k (assigned {z = z} {a = a} m w r) on = absurd (clash (seen s (skip_of s p) 10) h (begins (skip_of s p) z a w).no_line)

    at_name : (p u : ℕ) (b : Book) → Ahead p b → Starts s (skip_of s p) → (m : Made s (skip_of s p) u b) → Ahead u (with_name b (skip_of s p) m.tree)
    at_name p u b x st m = by x.count x.rest x.lines x.leads
      where
        q : ℕ
        q = skip_of s p

        new : New b q
        new = record { line = p; table = x.before.table; room = m.room; short = m.short; unknown = m.new }

        by : (c : ℕ) (k : List Assignment) → Lines s c p k → ((e : Book) → Leads b k e → Leads no_book l e) → Ahead u (with_name b q m.tree)
        by c k (over e) on = absurd (omega (arith, st.within))
        by c k (blank e w) on = absurd (clash (seen s q 10) e st.no_line)
        by c k (assigned {z = z} {a = a} {l = t} i w r) on =
            let f = same q u z b a m w in
            let y : q ≡ a.name = sym w.name in
            record {
              before = before_made s p u b x.before st m;
              count = suc c;
              rest = t;
              lines = subst (λ (j : ℕ). Lines s (suc c) j t) (sym f.place) r;
              leads = λ e g. on e (then m.tree (subst (New b) y new) f.lined (subst (λ (j : ℕ). Leads (with_name b j m.tree) t e) y g));
            }

  -- the book of a file that was read is where its reading leads
  pub file_leads : (x : ℕ) (l : List Assignment) → (file_of s).step ≡ Ok x → File s l → Leads no_book l (file_of s).book
  file_leads x l e w =
      file_by s (Ahead l) (λ (r : Sheet). (x : ℕ) → r.step ≡ Ok x → Leads no_book l r.book)
      (λ p b a h x e. at_end l p b a h) (at_blank l) (λ p z b a st m. at_name l p z b a st m)
      (λ p b w a st k x e. let z : ◌≡◌ {A = ℕ} 0 1 = cc in absurd (omega arith))
      (record { before = before_none s; count = 0; rest = l; lines = w; leads = λ e g. g }) x e
