-- Laws of putting text into a lent room, and of moving it to the front. Assumes nothing.
use mathlib.Core.Path.{◌≡◌, ap, ◌∙◌, sym, subst}
use mathlib.Core.Bool.{Bool, true, false, not, cond}
use mathlib.Core.List.{List, [], ◌++◌, append_assoc, append-nil}
use Prim.Native.Nat.{ℕ, ◌+◌, ◌≤◌, ◌<◌}
use native.Mathlib.Omega.{arith}
use native.Mathlib.Numerals.{add-one}
use native.Mathlib.Nat.{add-zero}
use lib.Dec.{leb}
use borrow.Author.Tests.{le-leb, lt-leb, leb-true, leb-false, not-true, not-false}
use lib.ListN.{length, get_or, take, drop, set, length-append, take-append-drop}
use lib.Seq.{paste, paste-suc, take-length, drop-drop, take_at, drop-append-add, length-take-le}
use Rattle.io.specs.Counts.{IsPrefixLen}
use Rattle.text.specs.Putting.{Put, where_free, PutFree}

-- one byte more of s stands in the room
module _ (d : List ℕ) (at : ℕ) (s : List ℕ) (i : ℕ) where
  pub paste_next : at + i < length d → i < length s → set (paste d at s i) (at + i) (get_or s i 0) ≡ paste d at s (i + 1)
  paste_next h l = paste-suc d at s i 0 h l ∙ ap (paste d at s) (sym (add-one i))

-- all of s stands there
pub put_done : (d : List ℕ) (at : ℕ) (s room : List ℕ) (i : ℕ) → room ≡ paste d at s i → i ≡ length s → Put d at s room (at + i)
put_done d at s room i e l =
    record {
      next = ap (λ (k : ℕ). at + k) l;
      room = e ∙ ap (paste d at s) l ∙ ap (λ (t : List ℕ). take at d ++ t ++ drop (at + length s) d) (take-length s);
    }

-- two stores of one turn
pub paste_two : (d : List ℕ) (at : ℕ) (s : List ℕ) (k x y : ℕ) → at + k + 1 < length d → k + 1 < length s → x ≡ get_or s k 0 → y ≡ get_or s (k + 1) 0
    → set (set (paste d at s k) (at + k) x) (at + k + 1) y ≡ paste d at s (k + 2)
paste_two d at s k x y h l p q =
    let a : at + k + 1 ≡ at + (k + 1) = omega arith in
    let b : k + 1 + 1 ≡ k + 2 = omega arith in
    ap (λ (v : ℕ). set (set (paste d at s k) (at + k) v) (at + k + 1) y) p
    ∙ ap (λ (r : List ℕ). set r (at + k + 1) y) (paste_next d at s k (omega arith) (omega arith))
    ∙ ap (λ (n : ℕ). set (paste d at s (k + 1)) n y) a
    ∙ ap (λ (v : ℕ). set (paste d at s (k + 1)) (at + (k + 1)) v) q
    ∙ paste_next d at s (k + 1) (omega arith) l
    ∙ ap (paste d at s) b

-- ---- one put after the other

-- nothing is put
pub put-none : (room : List ℕ) (at : ℕ) → Put room at [] room at
put-none room at =
    record {
      next = sym (add-zero at);
      room = sym ((λ i. append-nil (take at room) i ++ drop (add-zero at i) room) ∙ take-append-drop at room);
    }

-- xs is put, and ys after it
pub put_then : {before mid after : List ℕ} {at r s : ℕ} {xs ys : List ℕ} → at ≤ length before
    → Put before at xs mid r → Put mid r ys after s → Put before at (xs ++ ys) after s
put_then {before} {mid} {after} {at} {r} {s} {xs} {ys} h p q =
    let k = at + length xs in
    let head = take at before ++ xs in
    let tail = drop k before in
    let long : length head ≡ k = omega (arith, length-append (take at before) xs, length-take-le at before h) in
    let upto : take r mid ≡ head = (λ i. take (p.next i) (p.room i)) ∙ take_at head tail k long in
    let rest : drop (r + length ys) mid ≡ drop (k + length ys) before =
    (λ i. drop (p.next i + length ys) (p.room i))
    ∙ ap (λ (x : ℕ). drop (x + length ys) (head ++ tail)) (sym long) ∙ drop-append-add head tail (length ys) ∙ drop-drop (length ys) k before in
    let size : k + length ys ≡ at + length (xs ++ ys) = omega (arith, length-append xs ys) in
    record {
      next = omega (arith, p.next, q.next);
      room = q.room ∙ (λ i. upto i ++ ys ++ rest i) ∙ (λ i. append_assoc (take at before) xs ys i ++ drop (size i) before);
    }

-- a text that is put in parts, as a whole
pub put_as : {before after : List ℕ} {at r : ℕ} {xs ys : List ℕ} → xs ≡ ys → Put before at xs after r → Put before at ys after r
put_as {before} {after} {at} {r} e p = subst (λ (t : List ℕ). Put before at t after r) e p

-- ---- a put that asks whether there is room

-- what `is_free` answered where a function goes on
pub is_free : (room n : ℕ) {t : Bool} → t ≡ leb n room → not t ≡ false → n ≤ room
is_free room n e h = leb-true n room (sym e ∙ not-false _ h)

-- what it answered where a function stops
pub not_free : (room n : ℕ) {t : Bool} → t ≡ leb n room → not t ≡ true → room < n
not_free room n e h = leb-false n room (sym e ∙ not-true _ h)

module _ {before : List ℕ} {at size : ℕ} {s : List ℕ} where
  -- there is room, and s is put
  pub put_fits : {after : List ℕ} {r : ℕ} → at + size ≤ length before → r ≤ at + size → Put before at s after r → PutFree before at size s after r
  unfolding where_free
  put_fits h b p = record { put = put_as (sym (ap (λ (t : Bool). cond t s []) (le-leb (at + size) (length before) h))) p; bound = b }

  -- there is no room, and nothing is put
  pub put_short : length before < at + size → PutFree before at size s before at
  unfolding where_free
  put_short h = record { put = put_as (sym (ap (λ (t : Bool). cond t s []) (lt-leb (at + size) (length before) h))) (put-none before at); bound = omega arith }

  -- where there was room, s was put
  pub put_free : {after : List ℕ} {r : ℕ} → at + size ≤ length before → PutFree before at size s after r → Put before at s after r
  unfolding where_free
  put_free h p = put_as (ap (λ (t : Bool). cond t s []) (le-leb (at + size) (length before) h)) p.put

-- a count within a list
pub counted : (n : ℕ) (xs : List ℕ) → n ≤ length xs → IsPrefixLen n xs
counted n xs h = (h, sym (length-take-le n xs h))
