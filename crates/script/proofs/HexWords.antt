-- Laws of words that say bytes: pairs of hexadecimal digits, or `-`. Assumes nothing.
use mathlib.Core.Path.{◌≡◌, refl, ap, ◌∙◌, sym}
use mathlib.Core.Bool.{Bool, true, false}
use mathlib.Core.List.{List, [], ◌∷◌}
use Prim.Native.Nat.{ℕ, ◌-◌, ◌%◌, ◌≤◌}
use native.Mathlib.Omega.{arith}
use lib.Dec.{ltb}
use borrow.Author.Tests.{eqb-true}
use lib.ListN.{length, take, drop}
use Rattle.text.specs.declared.Word.{Word}
use Rattle.text.specs.Places.{head_word, tail_words, same_list}
use Rattle.text.specs.Numbers.{all_hex, hex_bytes}
use Rattle.text.proofs.Places.{same_length, both, part_length}
use Rattle.script.specs.declared.words.Words.{Words}
use Rattle.script.specs.Order.{unreadable, bytes_of}
use Rattle.script.specs.Reading.{Rest, is_pairs, is_hex, hex}
use Rattle.script.specs.Placed.{HexPart}
use Rattle.script.specs.Taking.{left, PassedWord, ReadHex}
use Rattle.script.proofs.Steps.{word_is, word_read}

-- ---- a word that says bytes

digits_of : (w : List ℕ) → is_pairs w ≡ true → (length w % 2 ≡ 0) × (all_hex w ≡ true)
unfolding is_pairs
digits_of w e = let t = both _ (both (ltb 0 (length w)) e).1 in (eqb-true _ _ t.0, t.1)

module _ (s : List ℕ) where
  hex_read : {v : List ℕ} → is_hex (head_word s) ≡ true → hex_bytes (head_word s) ≡ v → (f : List ℕ → Rest) → hex f s ≡ f v (tail_words s)
  unfolding hex
  hex_read e b f = rw e (ap (λ (v : List ℕ). f v (tail_words s)) b)

  hex-not : is_hex (head_word s) ≡ false → (f : List ℕ → Rest) → hex f s ≡ unreadable
  unfolding hex
  hex-not e f = rw e

  -- no word says none
  pub hex_none : head_word s ≡ [] → (f : List ℕ → Rest) → hex f s ≡ unreadable
  unfolding same_list is_pairs
  hex_none e = hex-not (ap is_hex e)

dash_bytes : (w : List ℕ) → length w ≡ 1 → hex_bytes w ≡ []
unfolding hex_bytes
dash_bytes [] h = refl
dash_bytes (x ∷ []) h = refl
dash_bytes (x ∷ y ∷ r) h = absurd (omega arith)

module _ (line : List ℕ) (k : ℕ) where
  no_digits : take (k - k) (drop k line) ≡ []
  no_digits = let z : k - k ≡ 0 = omega arith in rw z

  no_bytes : bytes_of line (record { from = k; to = k }) ≡ []
  unfolding hex_bytes
  no_bytes = rw no_digits

  -- a part with nothing in it
  empty_part : k ≤ length line → length line ≤ 65535 → HexPart line (record { from = k; to = k })
  unfolding all_hex
  empty_part h l = record { order = omega arith; inside = h; short = omega arith; pairs = omega arith; digits = rw no_digits }

-- ---- the bytes that a word says

module _ {w rest : Words} {t : Word} (p : PassedWord w t rest) where
  -- the word stands within the line
  word_inside : t.to ≤ length w.line.now
  word_inside = omega (arith, w.inside, p.next.inside)

  module _ {r : Bool} (d : r ≡ same_list (take (t.to - t.from) (drop t.from rest.line.now)) (45 ∷ [])) where
    pub hex_dash : r ≡ true → ReadHex w (record { from = t.to; to = t.to }) rest
    hex_dash e =
        let s = left w in
        let same : same_list (head_word s) (45 ∷ []) ≡ true = word_is (λ (x : List ℕ). same_list x (45 ∷ [])) p d ∙ e in
        let bytes = dash_bytes (head_word s) (same_length (head_word s) (45 ∷ []) same) in
        record {
          read = word_read p (hex_read s (rw same) (bytes ∙ sym (no_bytes w.line.now t.to)));
          place = empty_part w.line.now t.to word_inside w.short;
          after = omega (arith, p.next.starts, p.next.order);
          ends = sym p.at;
        }

    module _ (u : r ≡ false) {q : Bool} (x : q ≡ is_pairs (take (t.to - t.from) (drop t.from rest.line.now))) where
      pub hex_pairs : q ≡ true → ReadHex w (record { from = t.from; to = t.to }) rest
      hex_pairs e =
          let s = left w in
          let same : same_list (head_word s) (45 ∷ []) ≡ false = word_is (λ (x : List ℕ). same_list x (45 ∷ [])) p d ∙ u in
          let pairs : is_pairs (head_word s) ≡ true = word_is is_pairs p x ∙ e in
          let digits = digits_of (take (t.to - t.from) (drop t.from w.line.now)) (ap is_pairs p.next.word ∙ pairs) in
          record {
            read = word_read p (hex_read s (rw (same, pairs)) (ap hex_bytes (sym p.next.word)));
            place =
                record {
                  order = p.next.order;
                  inside = word_inside;
                  short = omega (arith, word_inside, w.short);
                  pairs = ap (λ (k : ℕ). k % 2) (sym (part_length w.line.now w.at t.from t.to p.next)) ∙ digits.0;
                  digits = digits.1;
                };
            after = p.next.starts;
            ends = sym p.at;
          }

      pub hex_lost : q ≡ false → (f : List ℕ → Rest) → hex f (left w) ≡ unreadable
      hex_lost e =
          let s = left w in
          let same : same_list (head_word s) (45 ∷ []) ≡ false = word_is (λ (x : List ℕ). same_list x (45 ∷ [])) p d ∙ u in
          let pairs : is_pairs (head_word s) ≡ false = word_is is_pairs p x ∙ e in
          hex-not s (rw (same, pairs))
