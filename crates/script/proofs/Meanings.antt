-- Laws of what a whole line means: too long, blank, a note, a call or none. Assumes nothing.
use mathlib.Core.Path.{◌≡◌, ap, ◌∙◌, sym, subst}
use mathlib.Core.Bool.{true, false}
use mathlib.Core.List.{List}
use Prim.Native.Nat.{ℕ, ◌-◌, ◌≤◌, ◌<◌}
use native.Mathlib.Omega.{arith}
use borrow.Author.Tests.{lt-ltb, le-ltb, eq-eqb, ne_eqb}
use lib.Dec.{ltb}
use lib.ListN.{length, get_or, take, drop}
use Rattle.std.specs.Prelude.{Option, Some, None}
use Rattle.std.specs.Option.{unwrap_or}
use Rattle.text.specs.Places.{head_word, tail_words, NextWord}
use Rattle.text.proofs.Places.{part_length}
use Rattle.script.specs.declared.Call.{Call}
use Rattle.script.specs.declared.Call.TheVariants.{Silent, Unreadable}
use Rattle.script.specs.declared.words.Words.{Words}
use Rattle.script.specs.Order.{Order}
use Rattle.script.specs.Reading.{by_word, calls, order_in}
use Rattle.script.specs.Placed.{Means}
use Rattle.script.specs.Taking.{left, Asks}

-- whether there is a word, by its places
module _ {line : List ℕ} {at from to : ℕ} (n : NextWord line at from to) where
  word_length : length (head_word (drop at line)) ≡ to - from
  word_length = ap length (sym n.word) ∙ part_length line at from to n

  pub some_word : from < to → ltb 0 (length (head_word (drop at line))) ≡ true
  some_word h = lt-ltb 0 (length (head_word (drop at line))) (omega (arith, word_length))

  pub no_word : to ≤ from → ltb 0 (length (head_word (drop at line))) ≡ false
  no_word h = le-ltb 0 (length (head_word (drop at line))) (omega (arith, word_length))

-- what is read as none is unreadable
call_or : (line : List ℕ) (r : Option Call) {o : Order} → Asks line r o → Means line (unwrap_or r Unreadable) o
call_or line None e = record { meaning = sym e; places = tt; follows = tt }
call_or line (Some call) m = m

-- what means an order means one that is equal to it, over a line that is
asks_as : {line other : List ℕ} {o p : Order} (r : Option Call) → line ≡ other → o ≡ p → Asks line r o → Asks other r p
asks_as {line} {other} {o} {p} r e f a = subst (λ (x : Order). Asks other r x) f (subst (λ (x : List ℕ). Asks x r o) e a)

pub too_long : {line : List ℕ} → 65535 < length line → Means line Unreadable (order_in line)
unfolding order_in
too_long {line} h = record { meaning = rw (lt-ltb 65535 (length line) h); places = tt; follows = tt }

module _ {line : List ℕ} {from to : ℕ} (l : length line ≤ 65535) (n : NextWord line 0 from to) where
  pub is_blank : to ≤ from → Means line Silent (order_in line)
  unfolding order_in
  is_blank h = record { meaning = rw (le-ltb 65535 (length line) l, no_word n h); places = tt; follows = tt }

  module _ (h : from < to) where
    pub is_note : get_or line 0 0 ≡ 35 → Means line Silent (order_in line)
    unfolding order_in
    is_note e = record { meaning = rw (le-ltb 65535 (length line) l, some_word n h, eq-eqb _ _ e); places = tt; follows = tt }

    -- a call is what its first word says of the words after it
    pub is_call : (get_or line 0 0 ≡ 35 → ⊥) → (w : Words) → w.line.now ≡ line → w.at ≡ to → (r : Option Call)
        → Asks w.line.now r (by_word calls (take (to - from) (drop from line)) (left w)) → Means line (unwrap_or r Unreadable) (order_in line)
    unfolding order_in
    is_call e w p q r a =
        let rest : left w ≡ tail_words line = (λ i. drop (q i) (p i)) ∙ n.rest in
        rw (le-ltb 65535 (length line) l, some_word n h, ne_eqb _ _ e)
        (call_or line r (asks_as r p (λ i. by_word calls (n.word i) (rest i)) a))
