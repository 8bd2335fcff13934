-- Two names have one key where they are the same name, and nowhere else.
use mathlib.Core.Path.{◌≡◌, refl, sym, ap, ◌∙◌}
use mathlib.Core.Bool.{Bool, true, false, cond}
use mathlib.Core.List.{List, [], ◌∷◌}
use Prim.Native.Nat.{ℕ, zero, suc, ◌+◌, ◌-◌, ◌*◌, ◌^◌, ◌≤◌, ◌<◌, min}
use native.Mathlib.Nat.{mod-eq_of_lt, pow-le-pow_right, add-zero}
use native.Mathlib.Omega.{arith}
use borrow.Author.Tests.{eqb-true, eq-eqb, lt-ltb, ltb-true, ltb-false, leb-true, leb-false}
use lib.Dec.{leb, ltb, eqb}
use lib.ListN.{length, get_or, drop, length-drop}
use lib.Seq.{length-take-le, get_or-take, get_or-drop, ext_get_or}
use Rattle.text.specs.Places.{same_list}
use Rattle.text.proofs.Places.{both}
use Rattle.formula.specs.Sizes.{longest}
use Rattle.formula.specs.Text.{seen, in_class, word_end}
use Rattle.formula.specs.Names.{appended, part_of, middle, low_key, high_key, input_of}
use Rattle.formula.specs.declared.Class.TheVariants.{Letter}
use Rattle.formula.proofs.Laws.{past-ge, past_in}
use Rattle.grammar.proofs.Bytes.{letters, past_hits}
use Rattle.known.specs.Known.{word_at, same_name}

-- ---- bytes as one number

-- n bytes from i on are digits to base 256, and none of them is 0
abbrev Digits : List ℕ → ℕ → ℕ → Type 0
Digits s i n = (k : ℕ) → k < n → (0 < get_or s (i + k) 0) × (get_or s (i + k) 0 < 256)

-- the same bytes stand from i and from j on, n of them
abbrev pub Agree : List ℕ → ℕ → ℕ → ℕ → Type 0
Agree s n i j = (k : ℕ) → k < n → get_or s (i + k) 0 ≡ get_or s (j + k) 0

agree_first : (s : List ℕ) (n i j : ℕ) → 0 < n → Agree s n i j → get_or s i 0 ≡ get_or s j 0
agree_first s n i j h e = ap (λ (x : ℕ). get_or s x 0) (sym (add-zero i)) ∙ e 0 h ∙ ap (λ (x : ℕ). get_or s x 0) (add-zero j)

part_last : (s : List ℕ) (f i v : ℕ) → part_of s (suc f) i v ≡ appended (part_of s f i v) (get_or s (i + f) 0)
unfolding part_of
part_last s zero i v = rw (add-zero i)
part_last s (suc f) i v =
    let z : i + 1 + f ≡ i + suc f = omega arith in
    part_last s f (i + 1) (appended v (get_or s i 0)) ∙ ap (λ (j : ℕ). appended (part_of s f (i + 1) (appended v (get_or s i 0))) (get_or s j 0)) z

module _ (s : List ℕ) (i : ℕ) where
  part_next : (f : ℕ) → f ≤ 7 → part_of s f i 0 < 256 ^ f → part_of s (suc f) i 0 ≡ part_of s f i 0 * 256 + get_or s (i + f) 0
  unfolding appended
  part_next f h k =
      let z : 256 ^ f ≤ 72057594037927936 = pow-le-pow_right {n = 256} (omega arith) {j = 7} h in
      part_last s f i 0 ∙ ap (λ (x : ℕ). x * 256 + get_or s (i + f) 0) (mod-eq_of_lt (omega arith))

  part_size : (f : ℕ) → f ≤ 8 → Digits s i f → part_of s f i 0 < 256 ^ f
  unfolding part_of
  part_size zero h d = omega arith
  part_size (suc f) h d =
      let k = part_size f (omega arith) (λ x w. d x (omega arith)) in
      omega (arith, part_next f (omega arith) k, (d f (omega arith)).1)

  part_digit : (f : ℕ) → suc f ≤ 8 → Digits s i (suc f) → part_of s (suc f) i 0 ≡ part_of s f i 0 * 256 + get_or s (i + f) 0
  part_digit f h d = part_next f (omega arith) (part_size f (omega arith) (λ k w. d k (omega arith)))

-- numbers with such digits are equal where the digits are
same_digits : (s : List ℕ) (f g i j : ℕ) → f ≤ 8 → g ≤ 8 → Digits s i f → Digits s j g → part_of s f i 0 ≡ part_of s g j 0 → (f ≡ g) × Agree s f i j
unfolding part_of
same_digits s zero zero i j hf hg df dg e = (refl, λ k w. absurd (omega arith))
same_digits s zero (suc g) i j hf hg df dg e = absurd (omega (arith, part_digit s j g hg dg, (dg g (omega arith)).0))
same_digits s (suc f) zero i j hf hg df dg e = absurd (omega (arith, part_digit s i f hf df, (df f (omega arith)).0))
same_digits s (suc f) (suc g) i j hf hg df dg e =
    let a : part_of s (suc f) i 0 ≡ part_of s f i 0 * 256 + get_or s (i + f) 0 = part_digit s i f hf df in
    let b : part_of s (suc g) j 0 ≡ part_of s g j 0 * 256 + get_or s (j + g) 0 = part_digit s j g hg dg in
    let last : get_or s (i + f) 0 ≡ get_or s (j + g) 0 = omega (arith, (df f (omega arith)).1, (dg g (omega arith)).1) in
    let ih = same_digits s f g i j (omega arith) (omega arith) (λ k w. df k (omega arith)) (λ k w. dg k (omega arith)) (omega (arith, (df f (omega arith)).1, (dg g (omega arith)).1)) in
    (omega (arith, ih.0), λ k w. by ih.0 ih.1 last k w (ltb k f) refl)
  where
    by : f ≡ g → Agree s f i j → get_or s (i + f) 0 ≡ get_or s (j + g) 0 → (k : ℕ) → k < suc f → (t : Bool) → ltb k f ≡ t → get_or s (i + k) 0 ≡ get_or s (j + k) 0
    by e h last k w true t = h k (ltb-true k f t)
    by e h last k w false t =
        let z : k ≡ f = omega (arith, ltb-false k f t) in
        let y : k ≡ g = omega arith in
        ap (λ (x : ℕ). get_or s (i + x) 0) z ∙ last ∙ ap (λ (x : ℕ). get_or s (j + x) 0) (sym y)

-- and the same bytes are the same number
part_agree : (s : List ℕ) (f i j v : ℕ) → Agree s f i j → part_of s f i v ≡ part_of s f j v
unfolding part_of
part_agree s zero i j v h = refl
part_agree s (suc f) i j v h =
    let e : get_or s i 0 ≡ get_or s j 0 = agree_first s (suc f) i j (omega arith) h in
    part_agree s f (i + 1) (j + 1) (appended v (get_or s i 0)) (λ k w. next k (h (suc k) (omega arith))) ∙ ap (λ (b : ℕ). part_of s f (j + 1) (appended v b)) e
  where
    next : (k : ℕ) → get_or s (i + suc k) 0 ≡ get_or s (j + suc k) 0 → get_or s (i + 1 + k) 0 ≡ get_or s (j + 1 + k) 0
    next k e =
        let y : i + 1 + k ≡ i + suc k = omega arith in
        let z : j + 1 + k ≡ j + suc k = omega arith in
        ap (λ (x : ℕ). get_or s x 0) y ∙ e ∙ ap (λ (x : ℕ). get_or s x 0) (sym z)

-- ---- names by their bytes

-- as many bytes, and the same ones, stand in the names at a and b
pub record Alike (s : List ℕ) (a b : ℕ) : Type 0 where
  pub size : word_end s a - a ≡ word_end s b - b
  pub bytes : Agree s (word_end s a - a) a b

-- texts that are the same are equal,
same_equal : (a b : List ℕ) → same_list a b ≡ true → a ≡ b
unfolding same_list
same_equal [] [] e = refl
same_equal [] (y ∷ ys) e = let z : ◌≡◌ {A = ℕ} 0 1 = cc in absurd (omega arith)
same_equal (x ∷ xs) [] e = let z : ◌≡◌ {A = ℕ} 0 1 = cc in absurd (omega arith)
same_equal (x ∷ xs) (y ∷ ys) e =
    let t = both (eqb x y) e in
    ap (λ (z : ℕ). z ∷ xs) (eqb-true x y t.0) ∙ ap (λ (l : List ℕ). y ∷ l) (same_equal xs ys t.1)

-- and equal texts are the same
equal_same : (a b : List ℕ) → a ≡ b → same_list a b ≡ true
unfolding same_list
equal_same a b e = ap (λ (l : List ℕ). same_list l b) e ∙ self b
  where
    self : (b : List ℕ) → same_list b b ≡ true
    self [] = refl
    self (x ∷ xs) = rw (eq-eqb x x refl) (self xs)

module _ (s : List ℕ) where
  word_length : (p : ℕ) → length (word_at s p) ≡ word_end s p - p
  word_length p = length-take-le (word_end s p - p) (drop p s) (by (leb (word_end s p) p) refl)
    where
      by : (t : Bool) → leb (word_end s p) p ≡ t → word_end s p - p ≤ length (drop p s)
      by true w = omega (arith, leb-true (word_end s p) p w)
      by false w = omega (arith, length-drop p s, past_in (in_class Letter) s p (word_end s p) refl (leb-false (word_end s p) p w))

  word_byte : (p k : ℕ) → k < word_end s p - p → get_or (word_at s p) k 0 ≡ get_or s (p + k) 0
  word_byte p k h = get_or-take (word_end s p - p) (drop p s) k 0 h ∙ get_or-drop p s k 0

  pub same_alike : (a b : ℕ) → same_name s a b ≡ true → Alike s a b
  same_alike a b e =
      let w : word_at s a ≡ word_at s b = same_equal (word_at s a) (word_at s b) e in
      let z : word_end s a - a ≡ word_end s b - b = sym (word_length a) ∙ ap length w ∙ word_length b in
      record { size = z; bytes = λ k h. sym (word_byte a k h) ∙ ap (λ (l : List ℕ). get_or l k 0) w ∙ word_byte b k (omega arith) }

  pub alike_same : (a b : ℕ) → Alike s a b → same_name s a b ≡ true
  alike_same a b h =
      equal_same (word_at s a) (word_at s b)
      (ext_get_or 0 (word_at s a) (word_at s b) (word_length a ∙ h.size ∙ sym (word_length b)) (λ k m. byte k (omega (arith, word_length a))))
    where
      byte : (k : ℕ) → k < word_end s a - a → get_or (word_at s a) k 0 ≡ get_or (word_at s b) k 0
      byte k m = word_byte a k m ∙ h.bytes k m ∙ sym (word_byte b k (omega (arith, h.size)))

  -- names that are the same as a third are the same
  pub same_meet : (a b c : ℕ) → same_name s a c ≡ true → same_name s b c ≡ true → same_name s a b ≡ true
  same_meet a b c e f = equal_same (word_at s a) (word_at s b) (same_equal (word_at s a) (word_at s c) e ∙ sym (same_equal (word_at s b) (word_at s c) f))

  pub same_self : (a : ℕ) → same_name s a a ≡ true
  same_self a = equal_same (word_at s a) (word_at s a) refl

  pub same_sym : (a b : ℕ) → same_name s a b ≡ true → same_name s b a ≡ true
  same_sym a b e = same_meet b a b (same_self b) e

-- ---- names by their keys

middle_is : (p e : ℕ) → p ≤ e → middle p e ≡ p + min 8 (e - p)
unfolding middle
middle_is p e h = by (ltb 8 (e - p)) refl
  where
    by : (t : Bool) → ltb 8 (e - p) ≡ t → cond t (p + 8) e ≡ p + min 8 (e - p)
    by true w = omega (arith, ltb-true 8 (e - p) w)
    by false w = omega (arith, ltb-false 8 (e - p) w)

module _ (s : List ℕ) where
  -- how many bytes the name at p has, and how many of them are in the first part of its key
  abbrev size : ℕ → ℕ
  size p = word_end s p - p

  abbrev front : ℕ → ℕ
  front p = min 8 (size p)

  low_is : (p : ℕ) → low_key s p (word_end s p) ≡ part_of s (front p) p 0
  unfolding low_key
  low_is p =
      let z : middle p (word_end s p) - p ≡ front p = omega (arith, middle_is p (word_end s p) (past-ge (in_class Letter) s p)) in
      ap (λ (n : ℕ). part_of s n p 0) z

  high_is : (p : ℕ) → high_key s p (word_end s p) ≡ part_of s (size p - 8) (p + front p) 0
  unfolding high_key
  high_is p =
      let m : middle p (word_end s p) ≡ p + front p = middle_is p (word_end s p) (past-ge (in_class Letter) s p) in
      let z : word_end s p - (p + front p) ≡ size p - 8 = omega arith in
      rw (m, z)

  digits : (p i n : ℕ) → p ≤ i → i + n ≤ p + size p → Digits s i n
  unfolding in_class
  digits p i n h m k w =
      let e = letters (get_or s (i + k) 0) (past_hits (in_class Letter) s p (i + k) (omega arith) (omega (arith, past-ge (in_class Letter) s p))) in
      (omega (arith, e.0), omega (arith, e.1))

  -- names of one key are the same,
  module _ (a b : ℕ) where
    key_alike : size a ≤ longest → size b ≤ longest → low_key s a (word_end s a) ≡ low_key s b (word_end s b) → high_key s a (word_end s a) ≡ high_key s b (word_end s b) → Alike s a b
    key_alike ma mb el eh =
        let l = same_digits s (front a) (front b) a b (omega arith) (omega arith) (digits a a (front a) (omega arith) (omega arith)) (digits b b (front b) (omega arith) (omega arith)) (sym (low_is a) ∙ el ∙ low_is b) in
        let h = same_digits s (size a - 8) (size b - 8) (a + front a) (b + front b) (omega arith) (omega arith) (digits a (a + front a) (size a - 8) (omega arith) (omega arith))
        (digits b (b + front b) (size b - 8) (omega arith) (omega arith)) (sym (high_is a) ∙ eh ∙ high_is b) in
        record { size = omega (arith, l.0, h.0); bytes = λ k w. by l.0 l.1 h.1 k w (ltb k 8) refl }
      where
        by : front a ≡ front b → Agree s (front a) a b → Agree s (size a - 8) (a + front a) (b + front b) → (k : ℕ) → k < size a → (t : Bool) → ltb k 8 ≡ t → get_or s (a + k) 0 ≡ get_or s (b + k) 0
        by e l h k w true t = l k (omega (arith, ltb-true k 8 t))
        by e l h k w false t =
            let m = ltb-false k 8 t in
            let y : a + k ≡ a + front a + (k - 8) = omega arith in
            let z : b + front b + (k - 8) ≡ b + k = omega arith in
            ap (λ (x : ℕ). get_or s x 0) y ∙ h (k - 8) (omega arith) ∙ ap (λ (x : ℕ). get_or s x 0) z

    -- and the same names have one key
    module _ (e : Alike s a b) where
      alike_low : low_key s a (word_end s a) ≡ low_key s b (word_end s b)
      alike_low =
          let z : front a ≡ front b = omega (arith, e.size) in
          low_is a ∙ part_agree s (front a) a b 0 (λ k h. e.bytes k (omega arith)) ∙ ap (λ (n : ℕ). part_of s n b 0) z ∙ sym (low_is b)

      alike_high : high_key s a (word_end s a) ≡ high_key s b (word_end s b)
      alike_high =
          let z : front a ≡ front b = omega (arith, e.size) in
          let y : size a - 8 ≡ size b - 8 = omega (arith, e.size) in
          high_is a ∙ part_agree s (size a - 8) (a + front a) (b + front a) 0 (λ k h. by k h) ∙ rw (z, y) (sym (high_is b))
        where
          by : (k : ℕ) → k < size a - 8 → get_or s (a + front a + k) 0 ≡ get_or s (b + front a + k) 0
          by k h =
              let y : a + front a + k ≡ a + (front a + k) = omega arith in
              let z : b + (front a + k) ≡ b + front a + k = omega arith in
              ap (λ (x : ℕ). get_or s x 0) y ∙ e.bytes (front a + k) (omega arith) ∙ ap (λ (x : ℕ). get_or s x 0) z

    -- so a table may be searched by keys
    pub key_same : word_end s a ≤ a + longest → word_end s b ≤ b + longest → low_key s a (word_end s a) ≡ low_key s b (word_end s b)
        → high_key s a (word_end s a) ≡ high_key s b (word_end s b) → same_name s a b ≡ true
    key_same ma mb el eh = alike_same s a b (key_alike (omega arith) (omega arith) el eh)

    pub same_key : same_name s a b ≡ true → (low_key s a (word_end s a) ≡ low_key s b (word_end s b)) × (high_key s a (word_end s a) ≡ high_key s b (word_end s b))
    same_key e = let w = same_alike s a b e in (alike_low w, alike_high w)

    -- the same names are the same input, or none is one
    pub same_input : same_name s a b ≡ true → input_of s a (word_end s a) ≡ input_of s b (word_end s b)
    unfolding input_of seen
    same_input e = let w = same_alike s a b e in by w (eqb (size b) 2) refl
      where
        by : Alike s a b → (t : Bool) → eqb (size b) 2 ≡ t → input_of s a (word_end s a) ≡ input_of s b (word_end s b)
        by w false t = rw (w.size, t)
        by w true t =
            let n = eqb-true (size b) 2 t in
            let x : get_or s a 0 ≡ get_or s b 0 = agree_first s (size a) a b (omega (arith, w.size)) w.bytes in
            let ha : a < length s = omega (arith, w.size, past_in (in_class Letter) s a (word_end s a) refl (omega (arith, w.size))) in
            let hb : b < length s = omega (arith, past_in (in_class Letter) s b (word_end s b) refl (omega arith)) in
            rw (w.size, t, lt-ltb _ _ ha, lt-ltb _ _ hb, x, w.bytes 1 (omega (arith, w.size)))
