-- The table of a book has the names that the lines before set, so what it knows is what is known.
use Rattle.std.specs.Prelude.{Option, Some, None}
use mathlib.Core.Path.{◌≡◌, refl, sym, ap, subst, ◌∙◌}
use mathlib.Core.Bool.{Bool, true, false, cond, ◌&&◌}
use mathlib.Core.Logic.{◌⊎◌, inl, inr, ⊎_elim}
use mathlib.Core.List.{List}
use Prim.Native.Nat.{ℕ, zero, suc, ◌+◌, ◌≤◌, ◌<◌}
use native.Mathlib.Omega.{arith}
use borrow.Author.Tests.{ltb-true, ltb-false, eqb-true, eq-eqb}
use lib.Dec.{ltb, eqb}
use lib.ListN.{length, get_or, set, length-set, length-replicate}
use lib.Seq.{get_or-set_same, get_or-set_other}
use Rattle.formula.specs.Sizes.{most_names, longest}
use Rattle.formula.specs.Text.{word_end}
use Rattle.formula.specs.Names.{no_names, low_key, high_key, few_names, find_from, input_of, or_else, is_line, look_up}
use Rattle.formula.specs.declared.Gates.{Gates}
use Rattle.sheet.specs.declared.Book.{Book}
use Rattle.sheet.specs.Sheet.{no_book, set_name}
use Rattle.known.specs.Known.{Word, same_name, line_start, is_target, is_input, SetBefore, Known}
use Rattle.known.proofs.Keys.{same_meet, same_sym, key_same, same_key, same_input}
use Rattle.known.proofs.Words.{clash}

-- ---- a search

-- entry i of f from `from` on has the key a, b and the line v
record Hit (low high lines : List ℕ) (a b f from v : ℕ) : Type 0 where
  i : ℕ
  least : from ≤ i
  within : i < from + f
  low_is : get_or low i 0 ≡ a
  high_is : get_or high i 0 ≡ b
  line : v ≡ get_or lines i 0

module _ (low high lines : List ℕ) (a b : ℕ) where
  find_line : (f i v : ℕ) → find_from low high lines a b f i ≡ Some v → Hit low high lines a b f i v
  unfolding find_from
  find_line zero i v e = let z : ◌≡◌ {A = ℕ} 0 1 = cc in absurd (omega arith)
  find_line (suc f) i v e = by (eqb (get_or low i 0) a) refl (eqb (get_or high i 0) b) refl (find_line f (i + 1) v) e
    where
      later : Hit low high lines a b f (i + 1) v → Hit low high lines a b (suc f) i v
      later h = record { i = h.i; least = omega (arith, h.least); within = omega (arith, h.within); low_is = h.low_is; high_is = h.high_is; line = h.line }

      by : (t : Bool) → eqb (get_or low i 0) a ≡ t → (u : Bool) → eqb (get_or high i 0) b ≡ u → (find_from low high lines a b f (i + 1) ≡ Some v → Hit low high lines a b f (i + 1) v)
          → cond (t && u) (Some (get_or lines i 0)) (find_from low high lines a b f (i + 1)) ≡ Some v → Hit low high lines a b (suc f) i v
      by true et true eu ih e = record { i = i; least = omega arith; within = omega arith; low_is = eqb-true _ _ et; high_is = eqb-true _ _ eu; line = cc }
      by true et false eu ih e = later (ih e)
      by false et u eu ih e = later (ih e)

  find_none : (f i : ℕ) → find_from low high lines a b f i ≡ None → (j : ℕ) → i ≤ j → j < i + f → get_or low j 0 ≡ a → get_or high j 0 ≡ b → ⊥
  unfolding find_from
  find_none zero i e j l m ea eb = omega arith
  find_none (suc f) i e j l m ea eb = by (ltb i j) refl (find_none f (i + 1))
    where
      rest : (t u : Bool) → cond (t && u) (Some (get_or lines i 0)) (find_from low high lines a b f (i + 1)) ≡ None → find_from low high lines a b f (i + 1) ≡ None
      rest true true e = let z : ◌≡◌ {A = ℕ} 0 1 = cc in absurd (omega arith)
      rest true false e = e
      rest false u e = e

      by : (t : Bool) → ltb i j ≡ t → (find_from low high lines a b f (i + 1) ≡ None → (j : ℕ) → i + 1 ≤ j → j < i + 1 + f → get_or low j 0 ≡ a → get_or high j 0 ≡ b → ⊥) → ⊥
      by true w ih = ih (rest (eqb (get_or low i 0) a) (eqb (get_or high i 0) b) e) j (omega (arith, ltb-true i j w)) (omega arith) ea eb
      by false w ih =
          let z : j ≡ i = omega (arith, ltb-false i j w) in
          let k = rw (eq-eqb (get_or low i 0) a (ap (λ (x : ℕ). get_or low x 0) (sym z) ∙ ea), eq-eqb (get_or high i 0) b (ap (λ (x : ℕ). get_or high x 0) (sym z) ∙ eb)) at e in
          let n : ◌≡◌ {A = ℕ} 0 1 = cc in
          omega arith

-- ---- a table

-- where name i of a book stands in the text
abbrev pub start_of : Book → ℕ → ℕ
start_of b i = get_or b.starts i 0

-- the name at a is that of a line before p and no input, and it has this key
pub record Entry (s : List ℕ) (p a low high : ℕ) : Type 0 where
  pub word : Word s a
  pub target : is_target s a ≡ true
  pub before : a < p
  pub plain : input_of s a (word_end s a) ≡ None
  pub low_is : low ≡ low_key s a (word_end s a)
  pub high_is : high ≡ high_key s a (word_end s a)

-- the same of entry i of a book
abbrev pub EntryIn : List ℕ → ℕ → Book → ℕ → Type 0
EntryIn s p b i = Entry s p (start_of b i) (get_or b.names.low i 0) (get_or b.names.high i 0)

-- the name at a is in a book
pub record Listed (b : Book) (a : ℕ) : Type 0 where
  pub i : ℕ
  pub within : i < b.names.n
  pub at : start_of b i ≡ a

-- a book's lists have room for the most names
pub record Sized (b : Book) : Type 0 where
  pub low : length b.names.low ≡ most_names
  pub high : length b.names.high ≡ most_names
  pub lines : length b.names.lines ≡ most_names
  pub starts : length b.starts ≡ most_names

-- the names of a book are those that the lines before p set, each once
pub record Table (s : List ℕ) (p : ℕ) (b : Book) : Type 0 where
  pub room : b.names.n ≤ most_names
  pub sized : Sized b
  pub entry : (i : ℕ) → i < b.names.n → EntryIn s p b i
  pub listed : (a : ℕ) → Word s a → is_target s a ≡ true → a < p → Listed b a
  pub once : (i j : ℕ) → i < b.names.n → j < b.names.n → same_name s (start_of b i) (start_of b j) ≡ true → i ≡ j

-- what a book knows of the name at a
abbrev pub look_up_in : List ℕ → Book → ℕ → Option ℕ
look_up_in s b a = look_up s b.names.low b.names.high b.names.lines b.names.n a (word_end s a)

-- v is the line of the entry of a book whose name is that at a
pub record Entered (s : List ℕ) (b : Book) (a v : ℕ) : Type 0 where
  pub i : ℕ
  pub within : i < b.names.n
  pub same : same_name s (start_of b i) a ≡ true
  pub line : v ≡ get_or b.names.lines i 0

pub few_is : (n : ℕ) → n ≤ most_names → few_names n ≡ n
unfolding few_names
few_is n h = by (ltb n most_names) refl
  where
    by : (t : Bool) → ltb n most_names ≡ t → cond t n most_names ≡ n
    by true w = refl
    by false w = omega (arith, ltb-false n most_names w)

module _ (s : List ℕ) (p : ℕ) (b : Book) (t : Table s p b) (a : ℕ) (m : word_end s a ≤ a + longest) where
  abbrev found : Option ℕ
  found = find_from b.names.low b.names.high b.names.lines (low_key s a (word_end s a)) (high_key s a (word_end s a)) b.names.n 0

  look_is : look_up_in s b a ≡ or_else (input_of s a (word_end s a)) found
  unfolding look_up
  look_is = rw (few_is b.names.n t.room)

  found-entered : (v : ℕ) → found ≡ Some v → Entered s b a v
  found-entered v e =
      let h = find_line b.names.low b.names.high b.names.lines (low_key s a (word_end s a)) (high_key s a (word_end s a)) b.names.n 0 v e in
      let k : h.i < b.names.n = omega (arith, h.within) in
      let x = t.entry h.i k in
      record { i = h.i; within = k; same = key_same s (start_of b h.i) a x.word.short m (sym x.low_is ∙ h.low_is) (sym x.high_is ∙ h.high_is); line = h.line }

  found_none : found ≡ None → (i : ℕ) → i < b.names.n → same_name s (start_of b i) a ≡ true → ⊥
  found_none e i h w =
      let x = t.entry i h in
      let k = same_key s (start_of b i) a w in
      find_none b.names.low b.names.high b.names.lines (low_key s a (word_end s a)) (high_key s a (word_end s a)) b.names.n 0 e i (omega arith) (omega arith) (x.low_is ∙ k.0) (x.high_is ∙ k.1)

  -- what is not found is neither an input nor an entry
  pub look_new : look_up_in s b a ≡ None → (input_of s a (word_end s a) ≡ None) × ((i : ℕ) → i < b.names.n → same_name s (start_of b i) a ≡ true → ⊥)
  look_new e = by (input_of s a (word_end s a)) refl (sym look_is ∙ e)
    where
      by : (f : Option ℕ) → input_of s a (word_end s a) ≡ f → or_else f found ≡ None → (input_of s a (word_end s a) ≡ None) × ((i : ℕ) → i < b.names.n → same_name s (start_of b i) a ≡ true → ⊥)
      by (Some x) ef e = let z : ◌≡◌ {A = ℕ} 0 1 = cc in absurd (omega arith)
      by None ef e = (ef, found_none e)

  -- what is found is an input or an entry's line
  pub look_entered : (v : ℕ) → look_up_in s b a ≡ Some v → (input_of s a (word_end s a) ≡ Some v) ⊎ Entered s b a v
  look_entered v e = by (input_of s a (word_end s a)) refl (sym look_is ∙ e)
    where
      by : (f : Option ℕ) → input_of s a (word_end s a) ≡ f → or_else f found ≡ Some v → (input_of s a (word_end s a) ≡ Some v) ⊎ Entered s b a v
      by (Some x) ef e = inl (ef ∙ e)
      by None ef e = inr (found-entered v e)

  -- one entry at most has this name
  pub one_entry : (i j : ℕ) → i < b.names.n → j < b.names.n → same_name s (start_of b i) a ≡ true → same_name s (start_of b j) a ≡ true → i ≡ j
  one_entry i j h k u v = t.once i j h k (same_meet s (start_of b i) (start_of b j) a u v)

  -- and it is found
  pub entered_look : (i : ℕ) → i < b.names.n → same_name s (start_of b i) a ≡ true → look_up_in s b a ≡ Some (get_or b.names.lines i 0)
  entered_look i h w = look_is ∙ ap (λ (f : Option ℕ). or_else f found) (sym (same_input s (start_of b i) a w) ∙ (t.entry i h).plain) ∙ by found refl
    where
      by : (f : Option ℕ) → found ≡ f → f ≡ Some (get_or b.names.lines i 0)
      by None e = absurd (found_none e i h w)
      by (Some v) e =
          let x = found-entered v e in
          let z = one_entry x.i i x.within h x.same w in
          ap Some (x.line ∙ ap (λ (j : ℕ). get_or b.names.lines j 0) z)

  -- so it knows, of the names of the line that begins at p, those that are known
  module _ (ls : line_start s a ≡ p) where
    pub look_known : is_line (look_up_in s b a) ≡ true → Known s a
    look_known e = by (look_up_in s b a) refl e
      where
        set_by : (v : ℕ) → Entered s b a v → SetBefore s a
        set_by v x =
            let y = t.entry x.i x.within in
            record { at = start_of b x.i; word = y.word; target = y.target; before = omega (arith, y.before); same = x.same }

        by : (f : Option ℕ) → look_up_in s b a ≡ f → is_line f ≡ true → Known s a
        by None ef e = absurd (clash false e refl)
        by (Some v) ef e = ⊎_elim (λ k. inl (ap is_line k)) (λ x. inr (set_by v x)) (look_entered v ef)

    pub known_look : Known s a → is_line (look_up_in s b a) ≡ true
    known_look = ⊎_elim input table
      where
        input : is_input s a ≡ true → is_line (look_up_in s b a) ≡ true
        input e = ap is_line look_is ∙ by (input_of s a (word_end s a)) e
          where
            by : (f : Option ℕ) → is_line f ≡ true → is_line (or_else f found) ≡ true
            by (Some v) e = refl
            by None e = absurd (clash false e refl)

        table : SetBefore s a → is_line (look_up_in s b a) ≡ true
        table x =
            let l = t.listed x.at x.word x.target (omega (arith, x.before)) in
            ap is_line (entered_look l.i l.within (subst (λ (c : ℕ). same_name s c a ≡ true) (sym l.at) x.same))

-- ---- how it comes about

pub table_none : (s : List ℕ) → Table s 0 no_book
unfolding no_book no_names
table_none s =
    record {
      room = omega arith;
      sized = record { low = length-replicate {A = ℕ} most_names 0; high = length-replicate {A = ℕ} most_names 0; lines = length-replicate {A = ℕ} most_names 0; starts = length-replicate {A = ℕ} most_names 0 };
      entry = λ i h. absurd (omega arith);
      listed = λ a w t h. absurd (omega arith);
      once = λ i j h k e. absurd (omega arith);
    }

entry_later : (s : List ℕ) (p q a low high : ℕ) → p ≤ q → Entry s p a low high → Entry s q a low high
entry_later s p q a low high h e = record { word = e.word; target = e.target; before = omega (arith, e.before); plain = e.plain; low_is = e.low_is; high_is = e.high_is }

-- where no name is set it stays
pub table_on : (s : List ℕ) (p q : ℕ) (b : Book) → p ≤ q → ((a : ℕ) → Word s a → p ≤ a → a < q → ⊥) → Table s p b → Table s q b
table_on s p q b h none t =
    record {
      room = t.room;
      sized = t.sized;
      entry = λ i k. entry_later s p q (start_of b i) (get_or b.names.low i 0) (get_or b.names.high i 0) h (t.entry i k);
      listed = λ a w e k. by a w e k (ltb a p) refl;
      once = t.once;
    }
  where
    by : (a : ℕ) → Word s a → is_target s a ≡ true → a < q → (u : Bool) → ltb a p ≡ u → Listed b a
    by a w e k true u = t.listed a w e (ltb-true _ _ u)
    by a w e k false u = absurd (none a w (ltb-false _ _ u) k)

-- one name more: the only one from p to z that its line sets, and new
module _ (s : List ℕ) (p q z : ℕ) (b : Book) (g : Gates) (v : ℕ) (t : Table s p b) (room : b.names.n < most_names) (order : p ≤ q) (word : Word s q) (target : is_target s q ≡ true)
    (new : look_up_in s b q ≡ None) (ahead : q < z) (only : (a : ℕ) → Word s a → is_target s a ≡ true → p ≤ a → a < z → a ≡ q) where
  abbrev after : Book
  after = set_name s b g q v

  kept : (l : List ℕ) (x i : ℕ) → i < b.names.n → get_or (set l b.names.n x) i 0 ≡ get_or l i 0
  kept l x i h = get_or-set_other l b.names.n i x 0 (λ e. omega arith)

  last : (l : List ℕ) (x i : ℕ) → length l ≡ most_names → i ≡ b.names.n → get_or (set l b.names.n x) i 0 ≡ x
  last l x i h e = ap (λ (j : ℕ). get_or (set l b.names.n x) j 0) e ∙ get_or-set_same l b.names.n x 0 (omega arith)

  at_old : (i : ℕ) → i < b.names.n → start_of after i ≡ start_of b i
  at_old i h = kept b.starts q i h

  at_new : (i : ℕ) → i ≡ b.names.n → start_of after i ≡ q
  at_new i e = last b.starts q i t.sized.starts e

  unlike : (input_of s q (word_end s q) ≡ None) × ((i : ℕ) → i < b.names.n → same_name s (start_of b i) q ≡ true → ⊥)
  unlike = look_new s p b t q word.short new

  entry_old : (i : ℕ) → i < b.names.n → EntryIn s z after i
  entry_old i h =
      rw (at_old i h, kept b.names.low (low_key s q (word_end s q)) i h, kept b.names.high (high_key s q (word_end s q)) i h)
      (entry_later s p z (start_of b i) (get_or b.names.low i 0) (get_or b.names.high i 0) (omega arith) (t.entry i h))

  entry_new : (i : ℕ) → i ≡ b.names.n → EntryIn s z after i
  entry_new i e =
      rw (at_new i e, last b.names.low (low_key s q (word_end s q)) i t.sized.low e, last b.names.high (high_key s q (word_end s q)) i t.sized.high e)
      (record { word = word; target = target; before = ahead; plain = unlike.0; low_is = refl; high_is = refl })

  pub table_set : Table s z after
  table_set =
      record {
        room = omega arith;
        sized = record { low = length-set b.names.low b.names.n _ ∙ t.sized.low; high = length-set b.names.high b.names.n _ ∙ t.sized.high; lines = length-set b.names.lines b.names.n _ ∙ t.sized.lines; starts = length-set b.starts b.names.n _ ∙ t.sized.starts };
        entry = λ i h. entry i h (ltb i b.names.n) refl;
        listed = λ a w e h. listed a w e h (ltb a p) refl;
        once = λ i j h k e. once i j h k e (ltb i b.names.n) refl (ltb j b.names.n) refl;
      }
    where
      entry : (i : ℕ) → i < b.names.n + 1 → (u : Bool) → ltb i b.names.n ≡ u → EntryIn s z after i
      entry i h true u = entry_old i (ltb-true _ _ u)
      entry i h false u = entry_new i (omega (arith, ltb-false i b.names.n u))

      listed : (a : ℕ) → Word s a → is_target s a ≡ true → a < z → (u : Bool) → ltb a p ≡ u → Listed after a
      listed a w e h true u = let l = t.listed a w e (ltb-true _ _ u) in record { i = l.i; within = omega (arith, l.within); at = at_old l.i l.within ∙ l.at }
      listed a w e h false u = record { i = b.names.n; within = omega arith; at = at_new b.names.n refl ∙ sym (only a w e (ltb-false _ _ u) h) }

      once : (i j : ℕ) → i < b.names.n + 1 → j < b.names.n + 1 → same_name s (start_of after i) (start_of after j) ≡ true → (u : Bool) → ltb i b.names.n ≡ u → (x : Bool) → ltb j b.names.n ≡ x → i ≡ j
      once i j h k e true u true x = let m = ltb-true i b.names.n u in let n = ltb-true j b.names.n x in t.once i j m n (rw (at_old i m, at_old j n) at e)
      once i j h k e true u false x =
          let m = ltb-true i b.names.n u in
          let n : j ≡ b.names.n = omega (arith, ltb-false j b.names.n x) in
          absurd (unlike.1 i m (rw (at_old i m, at_new j n) at e))
      once i j h k e false u true x =
          let m : i ≡ b.names.n = omega (arith, ltb-false i b.names.n u) in
          let n = ltb-true j b.names.n x in
          absurd (unlike.1 j n (same_sym s q (start_of b j) (rw (at_new i m, at_old j n) at e)))
      once i j h k e false u false x = omega (arith, ltb-false i b.names.n u, ltb-false j b.names.n x)
