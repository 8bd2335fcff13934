-- What a step of `lines` needs so that merging changes nothing, and that values, words, depth and AND depth have it. Assumes nothing.
use mathlib.Core.Path.{◌≡◌, refl, ap, ◌∙◌, sym, subst}
use mathlib.Core.Logic.{⊎_elim}
use mathlib.Core.List.{List, [], ◌∷◌, map}
use Prim.Native.Nat.{ℕ, zero, suc, ◌+◌, ◌-◌, ◌<◌}
use native.Mathlib.Omega.{arith}
use lib.Bits.{bit_xor, differ, and_comm, or_comm, xor_comm}
use lib.ListN.{length, get_or}
use Rattle.circuit.specs.declared.Words.{Words}
use Rattle.circuit.specs.Gate.{Kind, kind_of, operands, truth, ones, word_of, words_of, no_words, nonlinear}
use Rattle.circuit.specs.Lines.{Gate, reads, lines, greatest, truth_step, words_step, depth_step, and_depth_step}
use Rattle.circuit.proofs.GateLaws.{two_operands}
use Rattle.circuit.proofs.Keep.{Below}
use Rattle.circuit.proofs.LineLaws.{lines_more, lines_at}
use Rattle.circuit.proofs.Operands.{reads_two, reads_one, by_operands}
use Rattle.sweep.specs.Sweep.{other_way}
use Rattle.sweep.proofs.SameLaws.{Alike}
use Rattle.sweep.proofs.FoldLaws.{map_below}

-- a step looks at the gate's kind alone, and does not mind in which order two operands stand
pub record Fair {A : Type 0} (step : ℕ → Gate → List A → A) : Type 0 where
  pub kinds : (k j : ℕ) (p q : Gate) (xs : List A) → p.kind ≡ q.kind → step k p xs ≡ step j q xs
  pub orders : (k : ℕ) (q : Gate) (f : ℕ → A) → step k q (map f (other_way (reads q))) ≡ step k q (map f (reads q))

-- gates that are the same make the same
pub alike_makes : {A : Type 0} (step : ℕ → Gate → List A → A) → Fair step → (f : ℕ → A) (k j : ℕ) (p q : Gate) → Alike p q
    → step j q (map f (reads q)) ≡ step k p (map f (reads p))
alike_makes step w f k j p q a =
    ⊎_elim (λ e. ap (λ (l : List ℕ). step j q (map f l)) e ∙ w.kinds j k q p (map f (reads p)) (sym a.kinds))
    (λ e. ap (λ (l : List ℕ). step j q (map f l)) e ∙ w.kinds j k q p (map f (other_way (reads p))) (sym a.kinds) ∙ w.orders k p f)
    a.operands

-- what a line has, in a circuit whose gates read lines below their own, is what its gate makes of what the circuit's lines have
pub line_is : {A : Type 0} (step : ℕ → Gate → List A → A) (d : A) (ins : List A) (gate : ℕ → Gate) (g j : ℕ) → j < g
    → Below (length ins + j) (reads (gate j))
    → get_or (lines step d ins gate g) (length ins + j) d ≡ step j (gate j) (map (λ (i : ℕ). get_or (lines step d ins gate g) i d) (reads (gate j)))
line_is step d ins gate g j h b =
    lines_more step d ins gate (suc j) (length ins + j) (omega arith) g (omega arith)
    ∙ lines_at step d ins gate j (length ins + j) refl
    ∙ ap (step j (gate j))
    (map_below (λ (i : ℕ). get_or (lines step d ins gate j) i d) (λ (i : ℕ). get_or (lines step d ins gate g) i d) (length ins + j)
    (λ i l. sym (lines_more step d ins gate j i l g (omega arith))) (reads (gate j)) b)

-- ---- the four steps

greatest_other : (f : ℕ → ℕ) (xs : List ℕ) → greatest (map f (other_way xs)) ≡ greatest (map f xs)
unfolding other_way
greatest_other f [] = refl
greatest_other f (a ∷ []) = refl
greatest_other f (a ∷ b ∷ []) = omega arith
greatest_other f (a ∷ b ∷ c ∷ xs) = refl

pub depth_fair : Fair depth_step
depth_fair = record { kinds = λ k j p q xs e. refl; orders = λ k q f. ap suc (greatest_other f (reads q)) }

pub and_fair : Fair and_depth_step
and_fair =
    record {
      kinds = λ k j p q xs e. ap (λ (x : ℕ). greatest xs + nonlinear (kind_of x)) e;
      orders = λ k q f. ap (λ (x : ℕ). x + nonlinear (kind_of q.kind)) (greatest_other f (reads q));
    }

-- a step that gives the values of the operands to the kind, where two may change places
module _ {A : Type 0} (op : Kind → A → A → A) (d : A) (comm : (k : Kind) → operands k ≡ 2 → (a b : A) → op k a b ≡ op k b a) where
  abbrev step : ℕ → Gate → List A → A
  step k q xs = op (kind_of q.kind) (get_or xs 0 d) (get_or xs 1 d)

  op_orders : (k : ℕ) (q : Gate) (f : ℕ → A) → step k q (map f (other_way (reads q))) ≡ step k q (map f (reads q))
  unfolding other_way
  op_orders k q f =
      by_operands (λ (q : Gate). step k q (map f (other_way (reads q))) ≡ step k q (map f (reads q))) q
      (λ h. subst (λ (rs : List ℕ). step k q (map f (other_way rs)) ≡ step k q (map f rs)) (sym (reads_two q h))
      (comm (kind_of q.kind) (two_operands q.kind h) (f q.right) (f q.left)))
      (λ h. subst (λ (rs : List ℕ). step k q (map f (other_way rs)) ≡ step k q (map f rs)) (sym (reads_one q h)) refl)

  op_fair : Fair step
  op_fair = record { kinds = λ k j p q xs e. ap (λ (x : ℕ). op (kind_of x) (get_or xs 0 d) (get_or xs 1 d)) e; orders = op_orders }

differ_comm : (a b : ℕ) → differ a b ≡ differ b a
differ_comm zero zero = refl
differ_comm zero (suc b) = refl
differ_comm (suc a) zero = refl
differ_comm (suc a) (suc b) = differ_comm a b

truth_comm : (k : Kind) → operands k ≡ 2 → (a b : ℕ) → truth k a b ≡ truth k b a
truth_comm Kind.XOR e a b = differ_comm a b
truth_comm Kind.XNOR e a b = ap (λ (x : ℕ). 1 - x) (differ_comm a b)
truth_comm Kind.AND e a b = omega arith
truth_comm Kind.NAND e a b = omega arith
truth_comm Kind.OR e a b = omega arith
truth_comm Kind.NOR e a b = omega arith
truth_comm Kind.NOT e a b = absurd (omega arith)

pub truth_fair : Fair truth_step
truth_fair = op_fair truth 0 truth_comm

word_comm : (k : Kind) → operands k ≡ 2 → (a b : ℕ) → word_of k a b ≡ word_of k b a
word_comm Kind.XOR e a b = xor_comm a b
word_comm Kind.XNOR e a b = ap (λ (x : ℕ). bit_xor x ones) (xor_comm a b)
word_comm Kind.AND e a b = and_comm a b
word_comm Kind.NAND e a b = ap (λ (x : ℕ). bit_xor x ones) (and_comm a b)
word_comm Kind.OR e a b = or_comm a b
word_comm Kind.NOR e a b = ap (λ (x : ℕ). bit_xor x ones) (or_comm a b)
word_comm Kind.NOT e a b = absurd (omega arith)

words_comm : (k : Kind) → operands k ≡ 2 → (a b : Words) → words_of k a b ≡ words_of k b a
unfolding words_of
words_comm k e a b =
    let p = word_comm k e a.w0 b.w0 in
    let q = word_comm k e a.w1 b.w1 in
    let r = word_comm k e a.w2 b.w2 in
    let s = word_comm k e a.w3 b.w3 in
    λ i. record { w0 = p i; w1 = q i; w2 = r i; w3 = s i }

pub words_fair : Fair words_step
words_fair = op_fair words_of no_words words_comm
