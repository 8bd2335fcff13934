-- The loop of `rework`: its invariant, and that a turn keeps it. Assumes nothing.
use Rattle.std.specs.Prelude.{Ok}
use mathlib.Core.Path.{◌≡◌, refl, ap, ap₂, ◌∙◌, sym, subst}
use mathlib.Core.Bool.{Bool, true, false, ◌||◌}
use mathlib.Core.List.{List, [], ◌∷◌, ◌++◌}
use Prim.Native.Nat.{ℕ, suc, ◌≤◌, ◌<◌, ◌-◌, ◌+◌}
use native.Mathlib.Omega.{arith}
use borrow.Author.Tests.{eqb-true, eqb-false, eq-eqb}
use lib.Dec.{eqb}
use lib.Seq.{get_or-set_same, set-get_or, set_comm}
use lib.ListN.{length, get_or, set, take, drop, replicate, length-set, length-replicate, replicate-append-replicate, get_or-eq_default}
use Rattle.circuit.specs.declared.Words.{Words}
use Rattle.circuit.specs.Gate.{no_words}
use Rattle.circuit.specs.Lines.{Gate, depth_step, and_depth_step, words_step, reach_step, input_words, depths, and_depths, words, reached, second_read}
use Rattle.circuit.specs.Sizes.{most_inputs, most_gates, most_lines}
use Rattle.circuit.proofs.LineLaws.{made, unreached, lines_suc, lines_length, lines_more, lines_at}
use Rattle.circuit.proofs.Keep.{kept_read, kept_hit, kept_start, kept_miss, kept_done}
use Rattle.circuit.proofs.Operands.{reach_two, reads_below}
use Rattle.bench.specs.declared.Bench.{Bench}
use Rattle.bench.specs.Calls.{reworking}
use Rattle.bench.specs.Parts.{gate_on, entries, examined_as, AllBelow, Agree, put, HeldBut, Reexamined}
use Rattle.bench.specs.Held.{holding}
use Rattle.bench.proofs.Places.{Tells, tells_none, tells_hit, tells_miss}
use Rattle.bench.proofs.Examining.{entries_read, entries_skip, entries_next, entries-length, inputs-length, Stored, Shows, stored-makes}

-- the circuit before the edit: it differs at gate k alone, and its other lines were held
pub record Old (b : Bench) (k : ℕ) (old : ℕ → Gate) : Type 0 where
  pub below : AllBelow b.n b.g (gate_on b)
  pub agree : Agree k old (gate_on b)
  pub was : HeldBut b k old

-- each held array is fresh so far, and what it was from there on
pub record Fresh (b : Bench) (j : ℕ) (c : Bench) : Type 0 where
  pub depths : c.depths ≡ depths b.n (gate_on b) j ++ drop (b.n + j) b.depths
  pub ands : c.and_depths ≡ and_depths b.n (gate_on b) j ++ drop (b.n + j) b.and_depths
  pub values : c.values ≡ words b.n (gate_on b) j ++ drop (b.n + j) b.values

-- before gate j is examined: the lines reached from gate k so far are listed, and marked, gate k's own from the start
pub record Turn (b : Bench) (k : ℕ) (c : Bench) (lines : List ℕ) (count : ℕ) (marks : List Bool) (j : ℕ) : Type 0 where
  pub n_most : b.n ≤ most_inputs
  pub g_most : b.g ≤ most_gates
  pub from : k ≤ j
  pub to : j ≤ b.g
  pub rest : c ≡ holding b c.depths c.and_depths c.values
  pub small : count ≤ j
  pub listed : Tells lines count (reached k b.n (gate_on b) j)
  pub marked : marks ≡ set (entries (reach_step k) false (replicate b.n false) (gate_on b) b.n j) (b.n + k) true
  pub fresh : (old : ℕ → Gate) → Old b k old → Fresh b j c

pub moved : {b : Bench} {k : ℕ} {c c' : Bench} {lines lines' : List ℕ} {count count' : ℕ} {marks marks' : List Bool} {j : ℕ}
    → c' ≡ c → lines' ≡ lines → count' ≡ count → marks' ≡ marks → Turn b k c lines count marks j → Turn b k c' lines' count' marks' j
moved p q r s t = rw (p, q, r, s) t

-- one value at two places, in either order
set_both : {A : Type 0} (l : List A) (i j : ℕ) (v : A) → set (set l i v) j v ≡ set (set l j v) i v
set_both l i j v = go (eqb i j) refl where
  go : (t : Bool) → eqb i j ≡ t → set (set l i v) j v ≡ set (set l j v) i v
  go true e = let q = eqb-true i j e in rw q
  go false e = set_comm l i j v v (eqb-false i j e)

module _ (b : Bench) (k : ℕ) (n_most : b.n ≤ most_inputs) (g_most : b.g ≤ most_gates) where
  abbrev N : ℕ
  N = b.n

  abbrev Q : ℕ → Gate
  Q = gate_on b

  abbrev hits : ℕ → Bool
  hits = made (reach_step k) false (replicate N false) Q

  abbrev R : ℕ → List Bool
  R = reached k N Q

  -- the array of marks, with an entry a line
  abbrev E : ℕ → List Bool
  E = entries (reach_step k) false (replicate N false) Q N

  abbrev more : ℕ
  more = most_lines - (N + b.g)

  zs : length (replicate {A = ℕ} N 0) ≡ N
  zs = length-replicate N 0

  ws : length (take N input_words) ≡ N
  ws = inputs-length N n_most

  -- what was held, array by array but for the line of gate k, with its length
  record Was (old : ℕ → Gate) (h : HeldBut b k old) : Type 0 where
    depths : set b.depths (N + k) h.depth ≡ entries depth_step 0 (replicate N 0) old N b.g
    ands : set b.and_depths (N + k) h.and_depth ≡ entries and_depth_step 0 (replicate N 0) old N b.g
    values : set b.values (N + k) h.value ≡ entries words_step no_words (take N input_words) old N b.g
    depths-length : length b.depths ≡ most_lines
    ands_length : length b.and_depths ≡ most_lines
    values_length : length b.values ≡ most_lines

  held : (old : ℕ → Gate) (h : HeldBut b k old) → Was old h
  unfolding examined_as
  held old h =
      let p = ap (λ (z : Bench). z.depths) h.is in
      let q = ap (λ (z : Bench). z.and_depths) h.is in
      let r = ap (λ (z : Bench). z.values) h.is in
      record {
        depths = p;
        ands = q;
        values = r;
        depths-length = sym (length-set b.depths (N + k) h.depth) ∙ ap length p ∙ entries-length depth_step 0 (replicate N 0) old N zs b.g (omega arith);
        ands_length = sym (length-set b.and_depths (N + k) h.and_depth) ∙ ap length q ∙ entries-length and_depth_step 0 (replicate N 0) old N zs b.g (omega arith);
        values_length = sym (length-set b.values (N + k) h.value) ∙ ap length r ∙ entries-length words_step no_words (take N input_words) old N ws b.g (omega arith);
      }

  reached-length : (j : ℕ) → length (R j) ≡ N + j
  reached-length j = lines_length (reach_step k) false (replicate N false) Q j ∙ ap (λ (n : ℕ). n + j) (length-replicate N false)

  reached_next : (j : ℕ) (hit : Bool) → hits j ≡ hit → R j ++ (hit ∷ []) ≡ R (j + 1)
  reached_next j hit e = ap (λ (x : Bool). R j ++ (x ∷ [])) (sym e) ∙ sym (lines_suc (reach_step k) false (replicate N false) Q j)

  -- what is made of gate j, by whether it is gate k
  hits_by : (j : ℕ) (own : Bool) → eqb j k ≡ own → hits j ≡ (own || (get_or (R j) (Q j).left false || get_or (R j) (second_read (Q j)) false))
  hits_by j own e =
      let line : ℕ → Bool = λ i. get_or (R j) i false in
      reach_two k j (Q j) line ∙ ap (λ (t : Bool). t || (line (Q j).left || line (second_read (Q j)))) e

  -- gate k reaches its own line
  pub own_hit : hits k ≡ true
  own_hit = hits_by k true (eq-eqb k k refl)

  -- past gate k its line is marked as the others are
  own_kept : (j : ℕ) → k < j → set (E j) (N + k) true ≡ E j
  own_kept j h =
      let z = length-replicate N false in
      let e : get_or (E j) (N + k) false ≡ true =
      entries_read (reach_step k) false (replicate N false) Q N j (N + k)
      ∙ lines_more (reach_step k) false (replicate N false) Q (suc k) (N + k) (omega arith) j (omega arith)
      ∙ lines_at (reach_step k) false (replicate N false) Q k (N + k) (omega arith) ∙ own_hit in
      ap (set (E j) (N + k)) (sym e) ∙ set-get_or (E j) (N + k) false

  -- the code's test is whether the gate's line is reached
  pub test_is : {c : Bench} {lines : List ℕ} {count : ℕ} {marks : List Bool} {j x y : ℕ} → j < b.g → Turn b k c lines count marks j → x ≡ (Q j).left → y ≡ second_read (Q j)
      → (get_or marks (N + j) false || (get_or marks x false || get_or marks y false)) ≡ hits j
  test_is {marks} {j} {x} {y} h t ex ey = go (eqb j k) refl where
    go : (own : Bool) → eqb j k ≡ own → (get_or marks (N + j) false || (get_or marks x false || get_or marks y false)) ≡ hits j
    go true e =
        let l = entries-length (reach_step k) false (replicate N false) Q N (length-replicate N false) j (omega arith) in
        ap (λ (t : Bool). t || (get_or marks x false || get_or marks y false))
        (ap₂ (λ (l : List Bool) (i : ℕ). get_or l (N + i) false) t.marked (eqb-true j k e) ∙ get_or-set_same (E j) (N + k) true false (omega (arith, t.from)))
        ∙ sym (hits_by j true e)
    go false e =
        let is = t.marked ∙ own_kept j (omega (arith, t.from, eqb-false j k e)) in
        let at : (u v : ℕ) → u ≡ v → get_or marks u false ≡ get_or (R j) v false =
        λ u v q. ap₂ (λ (l : List Bool) (i : ℕ). get_or l i false) is q ∙ entries_read (reach_step k) false (replicate N false) Q N j v in
        ap₂ ◌||◌ (at (N + j) _ refl ∙ get_or-eq_default (R j) false (omega (arith, reached-length j))) (ap₂ ◌||◌ (at x _ ex) (at y _ ey))
        ∙ sym (hits_by j false e)

  pub start : k < b.g → Turn b k b (replicate most_lines 0) 0 (set (replicate most_lines false) (N + k) true) k
  start h = record {
    n_most = n_most;
    g_most = g_most;
    from = omega arith;
    to = omega arith;
    rest = refl;
    small = omega arith;
    listed = tells_none (N + k) ∙ ap reworking (sym (unreached k N Q k (omega arith)));
    marked =
        let e : N + k + (most_lines - (N + k)) ≡ most_lines = omega arith in
        ap (λ (l : List Bool). set l (N + k) true) (sym (ap (λ (l : List Bool). l ++ replicate (most_lines - (N + k)) false) (unreached k N Q k (omega arith))
        ∙ replicate-append-replicate (N + k) (most_lines - (N + k)) false ∙ ap (λ (x : ℕ). replicate x false) e));
    fresh = λ old o.
        let w = held old o.was in
        let le : k ≤ b.g = omega arith in
        record {
          depths = kept_start depth_step 0 (replicate N 0) N zs old Q k o.agree b.depths b.g more o.was.depth w.depths le;
          ands = kept_start and_depth_step 0 (replicate N 0) N zs old Q k o.agree b.and_depths b.g more o.was.and_depth w.ands le;
          values = kept_start words_step no_words (take N input_words) N ws old Q k o.agree b.values b.g more o.was.value w.values le;
        };
  }

  pub hit : {c : Bench} {lines : List ℕ} {count : ℕ} {marks : List Bool} {j x y d a v : ℕ} {w : Words} → j < b.g → Turn b k c lines count marks j → hits j ≡ true
      → x ≡ (Q j).left → y ≡ second_read (Q j) → Stored (Q j) c x y d a w → v ≡ N + j
      → Turn b k (put c (N + j) d a w) (set lines count v) (count + 1) (set marks (N + j) true) (j + 1)
  hit {c} {lines} {count} {j} {x} {y} {d} {a} {v} {w} h t hh ex ey s ev = record {
    n_most = n_most;
    g_most = g_most;
    from = omega (arith, t.from);
    to = omega arith;
    rest = ap (λ (z : Bench). put z (N + j) d a w) t.rest;
    small = omega (arith, t.small);
    listed = tells_hit lines count (R j) t.listed v (ev ∙ sym (reached-length j)) (omega (arith, t.small)) ∙ ap reworking (reached_next j true hh);
    marked =
        ap (λ (l : List Bool). set l (N + j) true) t.marked ∙ set_both (E j) (N + k) (N + j) true
        ∙ ap (λ (l : List Bool). set l (N + k) true)
        (entries_next (reach_step k) false (replicate N false) Q N (length-replicate N false) j (omega arith) true (sym hh));
    fresh = λ old o.
        let f = t.fresh old o in
        let was = held old o.was in
        let shows : (u v : ℕ) → u ≡ v → v < N + j → Shows b c j u v = λ u v e l. record {
          depth = ap (λ (i : ℕ). get_or c.depths i 0) e ∙ kept_read depth_step 0 (replicate N 0) N zs Q b.depths j c.depths f.depths v l;
          and = ap (λ (i : ℕ). get_or c.and_depths i 0) e ∙ kept_read and_depth_step 0 (replicate N 0) N zs Q b.and_depths j c.and_depths f.ands v l;
          value = ap (λ (i : ℕ). get_or c.values i no_words) e ∙ kept_read words_step no_words (take N input_words) N ws Q b.values j c.values f.values v l;
        } in
        let o2 = o.below j h in
        let m = stored-makes b c j x y d a w (omega arith) (shows x _ ex o2.0) (shows y _ ey (reads_below (N + j) (Q j) o2.0 o2.1).1) s in
        record {
          depths = kept_hit depth_step 0 (replicate N 0) N zs Q b.depths j c.depths (omega (arith, was.depths-length)) f.depths d m.depth;
          ands = kept_hit and_depth_step 0 (replicate N 0) N zs Q b.and_depths j c.and_depths (omega (arith, was.ands_length)) f.ands a m.and;
          values = kept_hit words_step no_words (take N input_words) N ws Q b.values j c.values (omega (arith, was.values_length)) f.values w m.value;
        };
  }

  pub miss : {c : Bench} {lines : List ℕ} {count : ℕ} {marks : List Bool} {j : ℕ} → j < b.g → Turn b k c lines count marks j → hits j ≡ false
      → Turn b k c lines count marks (j + 1)
  miss {c} {lines} {count} {j} h t hh = record {
    n_most = n_most;
    g_most = g_most;
    from = omega (arith, t.from);
    to = omega arith;
    rest = t.rest;
    small = omega (arith, t.small);
    listed = tells_miss lines count (R j) t.listed ∙ ap reworking (reached_next j false hh);
    marked =
        t.marked
        ∙ ap (λ (l : List Bool). set l (N + k) true) (entries_skip (reach_step k) false (replicate N false) Q N (length-replicate N false) j (omega arith) hh);
    fresh = λ old o.
        let f = t.fresh old o in
        let w = held old o.was in
        record {
          depths = kept_miss depth_step 0 (replicate N 0) N zs old Q k o.agree b.depths b.g more o.was.depth w.depths j c.depths h (omega (arith, w.depths-length)) f.depths hh;
          ands = kept_miss and_depth_step 0 (replicate N 0) N zs old Q k o.agree b.and_depths b.g more o.was.and_depth w.ands j c.and_depths h (omega (arith, w.ands_length)) f.ands hh;
          values = kept_miss words_step no_words (take N input_words) N ws old Q k o.agree b.values b.g more o.was.value w.values j c.values h (omega (arith, w.values_length)) f.values hh;
        };
  }

  pub done : {c : Bench} {lines : List ℕ} {count : ℕ} {marks : List Bool} {j : ℕ} → k < b.g → b.g ≤ j → Turn b k c lines count marks j
      → Reexamined b k c (Ok (record { lines = lines; count = count }))
  unfolding examined_as
  done {c} {lines} {count} {marks} {j} there h t =
      let e : j ≡ b.g = omega (arith, t.to) in
      let u : Turn b k c lines count marks b.g = subst (λ (x : ℕ). Turn b k c lines count marks x) e t in
      record {
        fresh = λ below old agree was.
            let f = u.fresh old (record { below = below; agree = agree; was = was }) in
            let w = held old was in
            let p = kept_done depth_step 0 (replicate N 0) N zs old Q k agree b.depths b.g more was.depth w.depths there c.depths f.depths in
            let q = kept_done and_depth_step 0 (replicate N 0) N zs old Q k agree b.and_depths b.g more was.and_depth w.ands there c.and_depths f.ands in
            let r = kept_done words_step no_words (take N input_words) N ws old Q k agree b.values b.g more was.value w.values there c.values f.values in
            u.rest ∙ (λ i. holding b (p i) (q i) (r i));
        listed = ap Ok u.listed;
      }
