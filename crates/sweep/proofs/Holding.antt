-- Laws of the arrays that the sweep holds: the gates kept and the new lines, gate by gate. Assumes nothing.
use mathlib.Core.Path.{◌≡◌, refl, ap, ap₂, ◌∙◌, sym, subst}
use mathlib.Core.Bool.{Bool, true, false, cond}
use mathlib.Core.Logic.{⊎_elim}
use mathlib.Core.List.{List, [], ◌∷◌, ◌++◌, map}
use Prim.Native.Nat.{ℕ, zero, suc, ◌+◌, ◌-◌, ◌%◌, ◌≤◌, ◌<◌}
use native.Mathlib.Omega.{arith}
use native.Mathlib.Nat.{mod-eq_of_lt}
use native.Mathlib.Numerals.{add-one}
use lib.ListN.{length, get_or, set, take, replicate, length-append, length-map}
use Rattle.circuit.specs.declared.Circuit.{Circuit}
use Rattle.circuit.specs.Gate.{Kind, kind_of}
use Rattle.circuit.specs.Lines.{Gate, gate, no_gate, listing, gate_at, upto, padded}
use Rattle.circuit.specs.Rules.{shaped}
use Rattle.circuit.specs.Sizes.{most_inputs, most_outputs, most_gates, most_lines, held16}
use Rattle.circuit.specs.Structs.{column, held, gate_of, out_of, listed}
use Rattle.circuit.proofs.GateLaws.{two_operands, high_not}
use Rattle.circuit.proofs.Listed.{gate-listed, column-put}
use Rattle.circuit.proofs.Operands.{by_operands}
use Rattle.circuit.proofs.Padding.{pad_read, padded-none, padded-length, padded-take, padded-put, padded_more}
use Rattle.circuit.proofs.Shapes.{shape_is}
use Rattle.circuit.proofs.Upto.{upto-length, upto_same, upto_take, map-upto}
use Rattle.sweep.specs.declared.Merging.{Merging}
use Rattle.sweep.specs.Sweep.{back, used, place, joined, renamed, Sweep, to, turned, sweep_to, sweep_of, swept, swept_in}
use Rattle.sweep.specs.Parts.{key_of, first_at, second_kept, marked, merging, sweep_in}
use Rattle.sweep.proofs.SameLaws.{place-le, joined_cases, renamed_two, renamed_one}
use Rattle.sweep.proofs.FoldLaws.{put, placed, turn_kept, turn_dropped, new_length, kept_few, kept_all, lands}
use Rattle.sweep.proofs.Finding.{Small, key_place}
use Rattle.sweep.proofs.Marks.{marked_read}

-- ---- the columns of the gates kept

-- the keys among which one is sought
column_keys : (qs : List Gate) → length qs ≤ most_gates → upto (λ (i : ℕ). get_or (column key_of qs) i 0) (length qs) ≡ map key_of qs
column_keys qs h =
    let l = length-map qs key_of in
    upto_take (column key_of qs) 0 (length qs) (omega (arith, padded-length most_gates 0 (map key_of qs) (omega arith)))
    ∙ padded-take most_gates 0 (map key_of qs) (length qs) (sym l)

-- ---- the renamed gate as the code makes it

pub second_two : (k b : ℕ) → k ≤ 5 → b ≡ second_kept (kind_of k) b
second_two k b h = sym (ap (λ (o : ℕ). get_or (take o (0 ∷ b ∷ [])) 1 0) (two_operands k h))

pub second_one : (k b : ℕ) → 6 ≤ k → 0 ≡ second_kept (kind_of k) b
second_one k b h = sym (ap (λ (t : Kind). second_kept t b) (high_not k h))

renamed_is : (f : ℕ → ℕ) (q : Gate) → renamed f q ≡ gate q.kind (f q.left) (second_kept (kind_of q.kind) (f q.right))
renamed_is f q =
    by_operands (λ (q : Gate). renamed f q ≡ gate q.kind (f q.left) (second_kept (kind_of q.kind) (f q.right))) q
    (λ h. renamed_two f q h ∙ ap (gate q.kind (f q.left)) (second_two q.kind (f q.right) h))
    (λ h. renamed_one f q h ∙ ap (gate q.kind (f q.left)) (second_one q.kind (f q.right) h))

-- a renamed gate is small where the new lines are
renamed_small : (f : ℕ → ℕ) (q : Gate) → ((i : ℕ) → f i < held16) → Small (renamed f q)
renamed_small f q h =
    by_operands (λ (q : Gate). Small (renamed f q)) q
    (λ k. subst Small (sym (renamed_two f q k)) (record { left = h q.left; right = h q.right }))
    (λ k. subst Small (sym (renamed_one f q k)) (record { left = h q.left; right = omega arith }))

-- ---- gate by gate
module _ (c : Circuit) (live : List Bool) where
  abbrev pub Sw : ℕ → Sweep
  Sw k = sweep_in c live k

  abbrev Lit : ℕ → Bool
  Lit i = get_or live i false

  -- what the code holds after k gates
  pub record Merged (k : ℕ) (keys kinds left right new : List ℕ) (count : ℕ) : Type 0 where
    pub in_keys : keys ≡ column key_of (Sw k).kept
    pub in_kinds : kinds ≡ column (λ (q : Gate). q.kind) (Sw k).kept
    pub in_left : left ≡ column (λ (q : Gate). q.left) (Sw k).kept
    pub in_right : right ≡ column (λ (q : Gate). q.right) (Sw k).kept
    pub lines : new ≡ padded most_lines 0 (Sw k).new
    pub so_many : count ≡ length (Sw k).kept

  pub merged_start : (new : List ℕ) → new ≡ padded most_lines 0 (upto (λ (i : ℕ). i) c.n)
      → Merged 0 (replicate most_gates 0) (replicate most_gates 0) (replicate most_gates 0) (replicate most_gates 0) new 0
  unfolding sweep_to
  merged_start new l =
      let z = sym (padded-none {A = ℕ} most_gates 0) in record { in_keys = z; in_kinds = z; in_left = z; in_right = z; lines = l; so_many = refl }

  -- the gates are fewer than there were
  pub merged_count : {k : ℕ} {keys kinds left right new : List ℕ} {count : ℕ} → Merged k keys kinds left right new count → count ≤ k
  merged_count {k} t = omega (arith, t.so_many, kept_few c.n Lit (gate_of c) k)

  -- the gate that comes and those that are kept are small
  pub put_small : 1 ≤ c.n → c.n ≤ most_inputs → (k : ℕ) → k ≤ most_gates → Small (put c.n Lit (gate_of c) k)
  put_small h m k l =
      renamed_small (to (Sw k)) (gate_of c k) (λ i. omega (arith, lands c.n Lit (gate_of c) h k i, kept_few c.n Lit (gate_of c) k))

  kept_small : 1 ≤ c.n → c.n ≤ most_inputs → (k : ℕ) → k ≤ most_gates → (j : ℕ) → j < length (Sw k).kept → Small (get_or (Sw k).kept j no_gate)
  kept_small h m k l = kept_all c.n Lit (gate_of c) (λ (j : ℕ) (q : Gate). Small q) k (λ i b e w. put_small h m i (omega arith))

  -- no output reaches the gate
  pub merged_dropped : (k : ℕ) {keys kinds left right new : List ℕ} {count : ℕ} → c.n + k < most_lines → Merged k keys kinds left right new count
      → Lit (c.n + k) ≡ false → Merged (k + 1) keys kinds left right new count
  merged_dropped k {keys} {kinds} {left} {right} {new} {count} h t e =
      let s = turn_dropped c.n Lit (gate_of c) k e in
      let l = new_length c.n Lit (gate_of c) k in
      let q = sym (ap (λ (x : Sweep). x.kept) s) in
      subst (λ (j : ℕ). Merged j keys kinds left right new count) (sym (add-one k))
      (record {
        in_keys = t.in_keys ∙ ap (column key_of) q;
        in_kinds = t.in_kinds ∙ ap (column (λ (q : Gate). q.kind)) q;
        in_left = t.in_left ∙ ap (column (λ (q : Gate). q.left)) q;
        in_right = t.in_right ∙ ap (column (λ (q : Gate). q.right)) q;
        lines = t.lines ∙ padded_more most_lines 0 (Sw k).new (omega arith) ∙ ap (λ (x : Sweep). padded most_lines 0 x.new) (sym s);
        so_many = t.so_many ∙ ap length q;
      })

  -- an output does: the gate as the code makes it
  pub put_is : (k : ℕ) {keys kinds left right new : List ℕ} {count : ℕ} → Merged k keys kinds left right new count → (x y b : ℕ)
      → x ≡ (gate_of c k).left → y ≡ (gate_of c k).right → b ≡ second_kept (kind_of (gate_of c k).kind) (get_or new y 0)
      → gate (gate_of c k).kind (get_or new x 0) b ≡ put c.n Lit (gate_of c) k
  put_is k {new = new} t x y b ex ey eb =
      let q = gate_of c k in
      let more = most_lines - length (Sw k).new in
      let la : get_or new x 0 ≡ to (Sw k) q.left = (λ i. get_or (t.lines i) (ex i) 0) ∙ pad_read (Sw k).new more q.left 0 in
      let lb : get_or new y 0 ≡ to (Sw k) q.right = (λ i. get_or (t.lines i) (ey i) 0) ∙ pad_read (Sw k).new more q.right 0 in
      ap₂ (gate q.kind) la (eb ∙ ap (second_kept (kind_of q.kind)) lb) ∙ sym (renamed_is (to (Sw k)) q)

  -- its place,
  pub put_at : 1 ≤ c.n → c.n ≤ most_inputs → (k : ℕ) → k ≤ most_gates → {keys kinds left right new : List ℕ} {count : ℕ} → Merged k keys kinds left right new count
      → (p : Gate) → p ≡ put c.n Lit (gate_of c) k → (key at : ℕ) → key ≡ key_of p → at ≡ first_at key (upto (λ (i : ℕ). get_or keys i 0) count)
      → at ≡ place p (Sw k).kept
  put_at h m k l t p ep key at ek ea =
      let qs = (Sw k).kept in
      ea ∙ (λ i. first_at (ek i) (upto (λ (j : ℕ). get_or (t.in_keys i) j 0) (t.so_many i)))
      ∙ ap (first_at (key_of p)) (column_keys qs (omega (arith, kept_few c.n Lit (gate_of c) k)))
      ∙ key_place p qs (subst Small (sym ep) (put_small h m k l)) (kept_small h m k l)

  -- what is stored
  module _ (k : ℕ) {keys kinds left right new : List ℕ} {count : ℕ} (h : c.n + k < most_lines) (m : k < most_gates) (t : Merged k keys kinds left right new count)
      (e : Lit (c.n + k) ≡ true) (p : Gate) (ep : p ≡ put c.n Lit (gate_of c) k) (at v : ℕ) (ea : at ≡ place p (Sw k).kept) (ev : v ≡ (c.n + at) % held16) where
    abbrev qs : List Gate
    qs = (Sw k).kept

    few : length qs ≤ k
    few = kept_few c.n Lit (gate_of c) k

    now : joined p qs ≡ (Sw (suc k)).kept
    now = ap (λ (z : Gate). joined z qs) ep ∙ sym (ap (λ (z : Sweep). z.kept) (turn_kept c.n Lit (gate_of c) k e))

    -- its new line,
    line : set new (c.n + k) v ≡ padded most_lines 0 (Sw (suc k)).new
    line =
        let at_is : at ≡ placed c.n Lit (gate_of c) k = ea ∙ ap (λ (z : Gate). place z qs) ep in
        let low : v ≡ c.n + placed c.n Lit (gate_of c) k =
        ev ∙ ap (λ (z : ℕ). (c.n + z) % held16) at_is ∙ mod-eq_of_lt (omega (arith, few, place-le (put c.n Lit (gate_of c) k) qs)) in
        (λ i. set (t.lines i) (c.n + k) (low i))
        ∙ padded-put most_lines 0 (Sw k).new (c.n + k) (c.n + placed c.n Lit (gate_of c) k) (sym (new_length c.n Lit (gate_of c) k)) h
        ∙ ap (λ (z : Sweep). padded most_lines 0 z.new) (sym (turn_kept c.n Lit (gate_of c) k e))

    -- alone where one is the same,
    pub merged_same : (at ≡ count → ⊥) → Merged (k + 1) keys kinds left right (set new (c.n + k) v) count
    merged_same o =
        let q : qs ≡ (Sw (suc k)).kept = ⊎_elim (λ w. sym w.1) (λ w. absurd (o (omega (arith, w.0, ea, t.so_many)))) (joined_cases p qs) ∙ now in
        subst (λ (j : ℕ). Merged j keys kinds left right (set new (c.n + k) v) count) (sym (add-one k))
        (record {
          in_keys = t.in_keys ∙ ap (column key_of) q;
          in_kinds = t.in_kinds ∙ ap (column (λ (q : Gate). q.kind)) q;
          in_left = t.in_left ∙ ap (column (λ (q : Gate). q.left)) q;
          in_right = t.in_right ∙ ap (column (λ (q : Gate). q.right)) q;
          lines = line;
          so_many = t.so_many ∙ ap length q;
        })

    -- and the gate itself where none is
    pub merged_new : (key : ℕ) → key ≡ key_of p → at ≡ count
        → Merged (k + 1) (set keys at key) (set kinds at p.kind) (set left at p.left) (set right at p.right) (set new (c.n + k) v) (count + 1)
    merged_new key ek o =
        let z : at ≡ length qs = o ∙ t.so_many in
        let q : qs ++ (p ∷ []) ≡ (Sw (suc k)).kept = ⊎_elim (λ w. absurd (omega (arith, w.0, ea, z))) (λ w. sym w.1) (joined_cases p qs) ∙ now in
        let room : length qs < most_gates = omega (arith, few, m) in
        let stored : (f : Gate → ℕ) (col : List ℕ) (x : ℕ) → col ≡ column f qs → x ≡ f p → set col at x ≡ column f (Sw (suc k)).kept =
        λ f col x a b. (λ i. set (a i) (z i) (b i)) ∙ column-put f qs p room ∙ ap (column f) q in
        subst (λ (j : ℕ). Merged j (set keys at key) (set kinds at p.kind) (set left at p.left) (set right at p.right) (set new (c.n + k) v) (count + 1)) (sym (add-one k))
        (record {
          in_keys = stored key_of keys key t.in_keys ek;
          in_kinds = stored (λ (q : Gate). q.kind) kinds p.kind t.in_kinds refl;
          in_left = stored (λ (q : Gate). q.left) left p.left t.in_left refl;
          in_right = stored (λ (q : Gate). q.right) right p.right t.in_right refl;
          lines = line;
          so_many = omega (arith, t.so_many, length-append qs (p ∷ []), ap length q);
        })

  pub merged_moved : (k : ℕ) {keys kinds left right new : List ℕ} {count : ℕ} {keys' kinds' left' right' new' : List ℕ} {count' : ℕ}
      → keys' ≡ keys → kinds' ≡ kinds → left' ≡ left → right' ≡ right → new' ≡ new → count' ≡ count
      → Merged k keys kinds left right new count → Merged k keys' kinds' left' right' new' count'
  merged_moved k a b l r n o t =
      record {
        in_keys = a ∙ t.in_keys;
        in_kinds = b ∙ t.in_kinds;
        in_left = l ∙ t.in_left;
        in_right = r ∙ t.in_right;
        lines = n ∙ t.lines;
        so_many = o ∙ t.so_many;
      }

  -- after the last gate
  pub merged_end : (k : ℕ) {keys kinds left right new : List ℕ} {count : ℕ} → k ≡ c.g → Merged k keys kinds left right new count
      → record { count = count; kinds = kinds; left = left; right = right; new = new } ≡ merging (Sw c.g)
  merged_end k e t =
      (λ i. record { count = t.so_many i; kinds = t.in_kinds i; left = t.in_left i; right = t.in_right i; new = t.lines i }) ∙ ap (λ (j : ℕ). merging (Sw j)) e

-- ---- the whole

-- the sweep depends on what is said of its gates alone
sweep_agree : (n : ℕ) (live lit : ℕ → Bool) (gate old : ℕ → Gate) (j : ℕ) → ((i : ℕ) → i < j → live (n + i) ≡ lit (n + i)) → ((i : ℕ) → i < j → gate i ≡ old i)
    → sweep_to n live gate j ≡ sweep_to n lit old j
unfolding sweep_to
sweep_agree n live lit gate old zero l e = refl
sweep_agree n live lit gate old (suc j) l e =
    let r = sweep_agree n live lit gate old j (λ i h. l i (omega arith)) (λ i h. e i (omega arith)) in
    let a = l j (omega arith) in
    let b = e j (omega arith) in
    λ i. turned n (a i) (b i) (r i)

-- what the code makes of the kept gates and the new outputs
abbrev pub assembled : Circuit → Merging → List ℕ → Circuit
assembled c s outs = record { n = c.n; m = c.m; g = s.count; kinds = s.kinds; left = s.left; right = s.right; outputs = outs }

pub swept_is : (c : Circuit) (live : List Bool) (s : Merging) (outs : List ℕ) → shaped c.n c.m c.g ≡ true
    → live ≡ marked (back c.n (listed c).gates (listed c).outs) → s ≡ merging (sweep_in c live c.g)
    → outs ≡ padded most_outputs 0 (upto (λ (i : ℕ). get_or s.new (out_of c i) 0) c.m) → assembled c s outs ≡ swept_in c
unfolding swept_in swept
swept_is c live s outs h el es eo =
    let sh = shape_is c.n c.m c.g h in
    let cc = listed c in
    let S = sweep_in c live c.g in
    let lg : length cc.gates ≡ c.g = upto-length (gate_of c) c.g in
    let same : S ≡ sweep_of cc =
    sweep_agree c.n (λ (i : ℕ). get_or live i false) (used cc) (gate_of c) (gate_at cc) c.g
    (λ i b. ap (λ (l : List Bool). get_or l (c.n + i) false) el ∙ marked_read (back c.n cc.gates cc.outs) (c.n + i) (omega arith))
    (λ i b. sym (gate-listed c i b)) ∙ ap (λ (j : ℕ). sweep_to c.n (used cc) (gate_at cc) j) (sym lg) in
    let os : upto (λ (i : ℕ). get_or s.new (out_of c i) 0) c.m ≡ map (to S) cc.outs =
    upto_same (λ (i : ℕ). get_or s.new (out_of c i) 0) (λ (i : ℕ). to S (out_of c i)) c.m
    (λ i b. ap (λ (z : Merging). get_or z.new (out_of c i) 0) es ∙ pad_read S.new (most_lines - length S.new) (out_of c i) 0)
    ∙ sym (map-upto (to S) (out_of c) c.m) in
    let m : c.m ≡ length (map (to S) cc.outs) = sym (upto-length (λ (i : ℕ). get_or s.new (out_of c i) 0) c.m) ∙ ap length os in
    (λ i. assembled c (es i) ((eo ∙ ap (padded most_outputs 0) os) i))
    ∙ (λ i. record { n = c.n; m = m i; g = (merging S).count; kinds = (merging S).kinds; left = (merging S).left; right = (merging S).right; outputs = padded most_outputs 0 (map (to S) cc.outs) })
    ∙ ap (λ (z : Sweep). held (listing c.n z.kept (map (to z) cc.outs))) same
    ∙ sym (ap (λ (t : Bool). cond t (held (swept cc)) c) h)

pub not-swept : (c : Circuit) → shaped c.n c.m c.g ≡ false → c ≡ swept_in c
unfolding swept_in
not-swept c h = sym (ap (λ (t : Bool). cond t (held (swept (listed c))) c) h)
