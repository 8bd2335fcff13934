-- Laws of reading a line word by word: a word that was read, one that is not what it should be, and none. Assumes nothing.
use mathlib.Core.Path.{◌≡◌, refl, ap, ◌∙◌, sym}
use mathlib.Core.Bool.{Bool, true, false}
use mathlib.Core.List.{List, []}
use Prim.Native.Nat.{ℕ, ◌-◌, ◌≤◌, ◌<◌}
use native.Mathlib.Omega.{arith}
use lib.Dec.{ltb}
use borrow.Author.Tests.{le-leb, lt-leb, not-true, not-false}
use lib.ListN.{length, take, drop}
use Rattle.std.specs.Prelude.{Option, Some, None, Result, Ok, Err, OkIff}
use Rattle.std.specs.Result.{result_ok}
use Rattle.text.specs.declared.Word.{Word}
use Rattle.text.specs.Places.{head_word, tail_words, same_list}
use Rattle.text.specs.Numbers.{number_in}
use Rattle.script.specs.declared.words.Words.{Words}
use Rattle.script.specs.Order.{Order, unreadable}
use Rattle.script.specs.Reading.{Rest, on_value, number, number_or_zero, limit, kind, no_more, matrix_word, table_word}
use Rattle.script.specs.Taking.{left, Ends, PassedWord, Read, Took, ReadOrZero, TookOrZero}

-- what a function says of the part where a word stands, it says of the word
pub word_is : {w after : Words} {t : Word} {A : Type 0} {r : A} (f : List ℕ → A) → PassedWord w t after
    → r ≡ f (take (t.to - t.from) (drop t.from after.line.now)) → f (head_word (left w)) ≡ r
word_is {t = t} f p e = ap f (sym p.next.word) ∙ (λ i. f (take (t.to - t.from) (drop t.from (sym p.line i).now))) ∙ sym e

module _ {w after : Words} {t : Word} (p : PassedWord w t after) where
  -- after a word, what follows it is left
  pub left_after : left after ≡ tail_words (left w)
  left_after = (λ i. drop (p.at i) (p.line i).now) ∙ p.next.rest

  -- a word was read
  pub word_read : {A : Type 0} {word : (A → Rest) → Rest} {value : A} → ((f : A → Rest) → word f (left w) ≡ f value (tail_words (left w)))
      → Read word w value after
  word_read {A} {word} {value} h =
      record {
        line = p.line;
        forward = omega (arith, p.at, p.next.starts, p.next.order);
        asks = λ f. h f ∙ ap (f value) (sym left_after);
        next = left_after;
      }

-- ---- numbers and limits

pub number_value : (s : List ℕ) (v : ℕ) → number_in (head_word s) ≡ Some v → (f : ℕ → Rest) → number f s ≡ f v (tail_words s)
unfolding number
number_value s v e f = ap (λ (x : Option ℕ). on_value x (λ (k : ℕ). f k (tail_words s))) e

pub number-not : (s : List ℕ) → number_in (head_word s) ≡ None → (f : ℕ → Rest) → number f s ≡ unreadable
unfolding number
number-not s e f = ap (λ (x : Option ℕ). on_value x (λ (k : ℕ). f k (tail_words s))) e

-- none is left
pub number_none : (s : List ℕ) → head_word s ≡ [] → (f : ℕ → Rest) → number f s ≡ unreadable
number_none s e = number-not s (ap number_in e)

module _ {w after : Words} {v : ℕ} (t : Read number w v after) where
  -- a number that a limit holds
  pub limit_value : v ≤ 255 → Read limit w v after
  unfolding limit
  limit_value h = record { line = t.line; forward = t.forward; asks = λ f. t.asks _ ∙ simp (le-leb v 255 h); next = t.next }

  -- and one that none holds
  pub limit-not : 255 < v → (f : ℕ → Rest) → limit f (left w) ≡ unreadable
  unfolding limit
  limit-not h f = t.asks _ ∙ simp (lt-leb v 255 h)

pub limit_took : {E : Type 0} {w after : Words} {v : ℕ} → Read number w v after → (r : Result ℕ E) → OkIff r (v < 256) v → Took limit w (result_ok r) after
limit_took t (Ok x) h = rw h.1 (limit_value t (omega (arith, h.0)))
limit_took t (Err e) h = limit-not t (omega (arith, h))

-- no number, and so no limit
pub limit_none : (s : List ℕ) → ((f : ℕ → Rest) → number f s ≡ unreadable) → (f : ℕ → Rest) → limit f s ≡ unreadable
unfolding limit
limit_none s h f = h _

-- ---- a number that may be left out

pub zero_left : (w : Words) → ltb 0 (length (head_word (left w))) ≡ false → ReadOrZero w 0 w
unfolding number_or_zero
zero_left w e = record { line = refl; asks = λ f. rw e }

pub zero_word : (w after : Words) → ltb 0 (length (head_word (left w))) ≡ true → (r : Option ℕ) → Took number w r after → TookOrZero w r after
unfolding number_or_zero
zero_word w after e None t = λ f. rw e (t f)
zero_word w after e (Some v) t = record { line = t.line; asks = λ f. rw e (t.asks f) }

-- ---- the end of a line

module _ (w : Words) {r : Bool} (n : Ends w r) where
  -- where it ends, an order that asks for its end stands
  pub at_end : r ≡ true → (o : Order) → no_more o (left w) ≡ o
  unfolding no_more
  at_end e o = rw (not-true _ (sym n ∙ e))

  -- where it does not end, the line is unreadable
  pub past_end : r ≡ false → (o : Order) → no_more o (left w) ≡ unreadable
  unfolding no_more
  past_end e o = rw (not-false _ (sym n ∙ e))

-- ---- the kind of a target

module _ (s : List ℕ) where
  pub kind_matrix : same_list (head_word s) matrix_word ≡ true → (f : Bool → Rest) → kind f s ≡ f true (tail_words s)
  unfolding kind
  kind_matrix e f = rw e

  module _ (n : same_list (head_word s) matrix_word ≡ false) where
    pub kind_table : same_list (head_word s) table_word ≡ true → (f : Bool → Rest) → kind f s ≡ f false (tail_words s)
    unfolding kind
    kind_table e f = rw (n, e)

    pub kind-not : same_list (head_word s) table_word ≡ false → (f : Bool → Rest) → kind f s ≡ unreadable
    unfolding kind
    kind-not e f = rw (n, e)

  -- no word is neither
  pub kind_none : head_word s ≡ [] → (f : Bool → Rest) → kind f s ≡ unreadable
  unfolding same_list
  kind_none e = kind-not (ap (λ (w : List ℕ). same_list w matrix_word) e) (ap (λ (w : List ℕ). same_list w table_word) e)
