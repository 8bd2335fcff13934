-- Laws of the steps: what a state gives to the choice of a gate, the state with a gate more, and the end.
use mathlib.Core.Bool.{Bool, true, false, cond}
use mathlib.Core.List.{List, [], ◌∷◌, ◌++◌, map, append_assoc, append-nil}
use mathlib.Core.Path.{◌≡◌, refl, sym, ap, ap₂, ◌∙◌, subst}
use Prim.Native.Nat.{ℕ, zero, suc, ◌+◌, ◌-◌, ◌^◌, ◌≤◌, ◌<◌, min, max}
use native.Mathlib.Numerals.{add-one}
use native.Mathlib.Omega.{arith}
use borrow.Author.Tests.{le-leb, lt-leb, eq-eqb, ne_eqb, eqb-false}
use lib.Bits.{bit_xor}
use lib.Dec.{eqb}
use lib.ListN.{length, get_or, take, drop, set, length-set, length-map, length-append}
use lib.Seq.{length-take-le, take-suc-set, get_or-take}
use Rattle.circuit.specs.Lines.{greatest, padded}
use Rattle.circuit.specs.Sizes.{most_outputs, most_gates, most_lines}
use Rattle.circuit.proofs.Upto.{map_snoc}
use Rattle.circuit.proofs.Depths.{deeper_is}
use Rattle.circuit.proofs.Padding.{padded-length, padded-take, padded-put}
use Rattle.circuit.proofs.Lists.{map_at}
use Rattle.distance.specs.Base.{Line, line, base_of, none, Xor, xor, made, run, Small, Shallow}
use Rattle.distance.specs.Table.{cost_at, end_of, TakenIn}
use Rattle.distance.proofs.Entries.{cost_is}
use Rattle.distance.proofs.Search.{lines_at, lines_end}
use Rattle.builder.specs.declared.grow.State.{State}
use Rattle.builder.specs.Rule.{Row, row, rows_of, away, distances, sum, deepest, makes, lowest, lowest_from, next_gate, greedy, taken}
use Rattle.builder.specs.Kept.{SoundRows, Alive, Held, misses, look_up, Tells, next_gaps, Lowering, base, Choosing, Poised, Tabled, Next, Stepped, SoFar, Grown}
use Rattle.builder.proofs.Reach.{away-lt}
use Rattle.builder.proofs.Ends.{Less, next_less, alive_more}
use Rattle.builder.proofs.Lookup.{misses-le, table_tells}
use Rattle.builder.proofs.Goals.{next_distances, next_falls}
use Rattle.builder.proofs.KeptUp.{small_masks, made_byte, held_fewer, held_more, cost_le}
use Rattle.builder.proofs.Lists.{lines_length, lines_get, lines_snoc, rows_length, rows_at, greatest_below}

-- ---- the row's lowest line
module _ (ms ds : List ℕ) (r : Row) (i : ℕ) (l : length ms ≡ length ds) where
  low_step : (x : Bool) → i < length ms → makes r (line (get_or ms i 0) (get_or ds i 0)) ≡ x
      → lowest_from r i (drop i (base_of ms ds)) ≡ cond x i (lowest_from r (i + 1) (drop (i + 1) (base_of ms ds)))
  low_step x h e =
      ap (lowest_from r i) (lines_at ms ds i h (omega arith))
      ∙ ap₂ (λ (y : Bool) (k : ℕ). cond y i (lowest_from r k (drop k (base_of ms ds)))) e (sym (add-one i))

  pub low_hit : i < length ms → get_or ms i 0 ≡ r.mask → get_or ds i 0 ≤ r.limit → lowest_from r i (drop i (base_of ms ds)) ≡ i
  low_hit h p q = low_step true h (rw (eq-eqb (get_or ms i 0) r.mask p, le-leb (get_or ds i 0) r.limit q))

  pub low_other : i < length ms → (get_or ms i 0 ≡ r.mask → ⊥) → lowest_from r i (drop i (base_of ms ds)) ≡ lowest_from r (i + 1) (drop (i + 1) (base_of ms ds))
  low_other h p = low_step false h (rw (ne_eqb (get_or ms i 0) r.mask p))

  pub low_deep : i < length ms → get_or ms i 0 ≡ r.mask → r.limit < get_or ds i 0 → lowest_from r i (drop i (base_of ms ds)) ≡ lowest_from r (i + 1) (drop (i + 1) (base_of ms ds))
  low_deep h p q = low_step false h (rw (eq-eqb (get_or ms i 0) r.mask p, lt-leb (get_or ds i 0) r.limit q))

  pub low_end : length ms ≤ i → lowest_from r i (drop i (base_of ms ds)) ≡ 0
  low_end h = ap (lowest_from r i) (lines_end ms ds i (omega arith))

-- it is a line, or 0
low_le : (r : Row) (i : ℕ) (ls : List Line) → lowest_from r i ls ≤ i + length ls - 1
low_le r i [] = omega arith
low_le r i (l ∷ ls) = go (makes r l) (low_le r (suc i) ls)
  where
    go : (x : Bool) → lowest_from r (suc i) ls ≤ suc i + length ls - 1 → cond x i (lowest_from r (suc i) ls) ≤ i + suc (length ls) - 1
    go true p = omega arith
    go false p = omega arith

pub lowest_byte : (ms ds : List ℕ) (r : Row) → length ms ≡ length ds → length ms ≤ most_lines → lowest (base_of ms ds) r < 256
lowest_byte ms ds r l h = omega (arith, low_le r 0 (base_of ms ds), lines_length ms ds l)

pub outs_at : (ms ds ts limits : List ℕ) (i : ℕ) → length ts ≡ length limits → i < length ts
    → lowest (base_of ms ds) (row (get_or ts i 0) (get_or limits i 0)) ≡ get_or (map (lowest (base_of ms ds)) (rows_of ts limits)) i 0
outs_at ms ds ts limits i e p =
    sym
    (map_at (lowest (base_of ms ds)) (rows_of ts limits) (row 0 0) i (omega (arith, rows_length ts limits e)) ∙ ap (lowest (base_of ms ds)) (rows_at ts limits i e))

pub outs_length : (ms ds ts limits : List ℕ) → length ts ≡ length limits → length (map (lowest (base_of ms ds)) (rows_of ts limits)) ≡ length ts
outs_length ms ds ts limits e = length-map (rows_of ts limits) (lowest (base_of ms ds)) ∙ rows_length ts limits e

-- ---- what sound rows are
pub sounds_limited : (ts limits : List ℕ) → length ts ≡ length limits → SoundRows (rows_of ts limits) → Shallow limits
sounds_limited [] [] e s i = omega arith
sounds_limited [] (d ∷ limits) e s i = absurd (omega arith)
sounds_limited (t ∷ ts) [] e s i = omega arith
sounds_limited (t ∷ ts) (d ∷ limits) e s zero = s.0.shallow
sounds_limited (t ∷ ts) (d ∷ limits) e s (suc i) = sounds_limited ts limits (omega arith) s.1 i

pub sounds_deep : (rs : List Row) → SoundRows rs → deepest rs < 16
sounds_deep [] s = omega arith
sounds_deep (r ∷ rs) s = omega (arith, s.0.shallow, sounds_deep rs s.1)

distances_small : (ls : List Line) (rs : List Row) (i : ℕ) → get_or (distances ls rs) i 0 < 8
distances_small ls [] i = omega arith
distances_small ls (r ∷ rs) zero = away-lt ls r
distances_small ls (r ∷ rs) (suc i) = distances_small ls rs i

shallow-take : (ds : List ℕ) (n : ℕ) → Shallow ds → Shallow (take n ds)
shallow-take [] zero s k = s k
shallow-take [] (suc n) s k = s k
shallow-take (d ∷ ds) zero s k = omega arith
shallow-take (d ∷ ds) (suc n) s zero = s 0
shallow-take (d ∷ ds) (suc n) s (suc k) = shallow-take ds n (λ j. s (suc j)) k

shallow-set : (ds : List ℕ) (i v : ℕ) → v < 16 → Shallow ds → Shallow (set ds i v)
shallow-set [] i v h s k = s k
shallow-set (d ∷ ds) zero v h s zero = h
shallow-set (d ∷ ds) zero v h s (suc k) = s (suc k)
shallow-set (d ∷ ds) (suc i) v h s zero = s 0
shallow-set (d ∷ ds) (suc i) v h s (suc k) = shallow-set ds i v h (λ j. s (suc j)) k

-- ---- a state from which the rule goes on
module _ (ts limits : List ℕ) (s : State) (p : Poised ts limits s) where
  abbrev rs : List Row
  rs = rows_of ts limits

  abbrev ms : List ℕ
  ms = take s.len s.masks

  abbrev ds : List ℕ
  ds = take s.len s.depths

  masks_long : length ms ≡ s.len
  masks_long = length-take-le s.len s.masks (omega (arith, p.within, p.wide))

  depths_long : length ds ≡ s.len
  depths_long = length-take-le s.len s.depths (omega (arith, p.within, p.deep))

  even : length ms ≡ length ds
  even = masks_long ∙ sym depths_long

  masks_bytes : Small 8 (base s) → (i : ℕ) → get_or ms i 0 < 256
  unfolding base
  masks_bytes b = small_masks ms ds even b

  pub base-length : length (base s) ≡ s.len
  unfolding base
  base-length = lines_length ms ds even ∙ masks_long

  gaps_long : length ts ≡ length (distances (base s) rs)
  gaps_long = sym (length-map rs (away (base s)) ∙ rows_length ts limits p.paired)

  gaps_taken : take (length ts) s.gaps ≡ distances (base s) rs
  gaps_taken = ap (take (length ts)) p.gaps_are ∙ padded-take most_outputs 0 (distances (base s) rs) (length ts) gaps_long

  pub gaps_wide : length s.gaps ≡ most_outputs
  gaps_wide = ap length p.gaps_are ∙ padded-length most_outputs 0 (distances (base s) rs) (omega (arith, gaps_long, p.few))

  pub choosing : (h : List ℕ) → Tabled ts limits s h → Choosing ms ds ts limits (take (length ts) s.gaps) h
  unfolding base
  choosing h t =
      record {
        even = even;
        shallow = shallow-take s.depths s.len p.shallow;
        paired = p.paired;
        few = p.few;
        sound = p.sound;
        limited = sounds_limited ts limits p.paired p.sound;
        alive = p.alive;
        gaps_are = gaps_taken;
        bytes = t.bytes;
        masks = masks_bytes t.held.bytes;
        cap = t.held.cap;
        tells = λ i j k l. table_tells h (base s) (greatest (distances (base s) rs)) (xor i j) t.held ts limits p.paired p.sound t.bytes (omega arith);
      }

  -- the greatest distance is a size that the table has
  top_le : greatest (distances (base s) rs) ≤ 8
  top_le = greatest_below (distances (base s) rs) 8 (λ i. omega (arith, distances_small (base s) rs i))

  -- the table of all sizes serves for these rows
  pub tabled_all : (h : List ℕ) → Held h (base s) 9 → ((i : ℕ) → get_or ts i 0 < 256) → Tabled ts limits s h
  tabled_all h o b = record { held = held_fewer h (base s) 9 (greatest (distances (base s) rs)) (omega (arith, top_le)) o; bytes = b }

  -- ---- a gate more
  module _ (h : List ℕ) (t : Tabled ts limits s h) (i j : ℕ) (nx : Next (base s) rs i j) where
    less : Less (base s) rs (xor i j)
    less =
        subst (Less (base s) rs) nx.is
        (next_less (base s) rs p.sound p.alive p.near (let e = eqb-false (sum (distances (base s) rs)) 0 nx.left_to_do in omega arith))

    pub first_in : i < s.len
    first_in = omega (arith, less.one, base-length)

    pub second_in : j < s.len
    second_in = omega (arith, less.two, base-length)

    at : (k : ℕ) → k < s.len → get_or (base s) k none ≡ line (get_or s.masks k 0) (get_or s.depths k 0)
    unfolding base
    at k q = lines_get ms ds k even ∙ ap₂ line (get_or-take s.len s.masks k 0 q) (get_or-take s.len s.depths k 0 q)

    abbrev m : ℕ
    m = bit_xor (get_or s.masks i 0) (get_or s.masks j 0)

    made_is : made (base s) (xor i j) ≡ line m (suc (max (get_or s.depths i 0) (get_or s.depths j 0)))
    made_is = ap₂ (λ (x y : Line). line (bit_xor x.mask y.mask) (suc (max x.depth y.depth))) (at i first_in) (at j second_in)

    mask_is : (made (base s) (xor i j)).mask ≡ m
    mask_is = ap (λ (x : Line). x.mask) made_is

    pub mask_byte : m < 256
    mask_byte = subst (λ (x : ℕ). x < 256) mask_is (made_byte (base s) (xor i j) t.held.bytes)

    module _ (w c : ℕ) (ed : w ≡ min 255 (suc (max (get_or s.depths i 0) (get_or s.depths j 0)))) (ec : c ≡ cost_at w) where
      -- no depth comes near to a byte's end
      ew : w ≡ suc (max (get_or s.depths i 0) (get_or s.depths j 0))
      ew = deeper_is (get_or s.depths i 0) (get_or s.depths j 0) w (omega (arith, p.shallow i)) (omega (arith, p.shallow j)) ed

      depth_is : (made (base s) (xor i j)).depth ≡ w
      depth_is = ap (λ (x : Line). x.depth) made_is ∙ sym ew

      pub depth_small : w < 16
      depth_small = omega (arith, less.deep, sounds_deep rs p.sound, depth_is)

      cost_pow : c ≡ 2 ^ (made (base s) (xor i j)).depth
      cost_pow = cost_is w c depth_small ec ∙ ap (λ (x : ℕ). 2 ^ x) (sym depth_is)

      pub lowering : Lowering (take (length ts) s.gaps) ts limits h m c
      lowering =
          rw gaps_taken
          (record {
            rows = sym gaps_long;
            limits_too = sym gaps_long ∙ p.paired;
            few = omega (arith, gaps_long, p.few);
            near = distances_small (base s) rs;
            cap = t.held.cap;
            cheap = cost_le w c depth_small ec;
            bytes = t.bytes;
            byte = mask_byte;
          })

      abbrev new : List Line
      new = base s ++ (made (base s) (xor i j) ∷ [])

      -- the distances from the new base
      module _ (gaps' : List ℕ) (eg : gaps' ≡ padded most_outputs 0 (next_gaps (misses h m c) (take (length ts) s.gaps) ts limits)) where
        right : Tells (look_up h (base s) (xor i j)) (base s) new rs
        right = table_tells h (base s) (greatest (distances (base s) rs)) (xor i j) t.held ts limits p.paired p.sound t.bytes (omega arith)

        nexts : next_gaps (look_up h (base s) (xor i j)) (distances (base s) rs) ts limits ≡ distances new rs
        nexts = next_distances (look_up h (base s) (xor i j)) (base s) (xor i j) less.one less.two ts limits p.paired p.sound p.alive right

        gaps_next : gaps' ≡ padded most_outputs 0 (distances new rs)
        gaps_next =
            eg
            ∙ ap (padded most_outputs 0)
            ((λ u. next_gaps (misses h (sym mask_is u) (cost_pow u)) (gaps_taken u) ts limits) ∙ nexts)

        next_long : length ts ≡ length (distances new rs)
        next_long = sym (length-map rs (away new) ∙ rows_length ts limits p.paired)

        taken_next : take (length ts) gaps' ≡ distances new rs
        taken_next = ap (take (length ts)) gaps_next ∙ padded-take most_outputs 0 (distances new rs) (length ts) next_long

        -- no distance grew
        top_falls : greatest (distances new rs) ≤ greatest (distances (base s) rs)
        top_falls =
            subst (λ (l : List ℕ). greatest l ≤ greatest (distances (base s) rs))
            nexts
            (next_falls (look_up h (base s) (xor i j)) (misses-le h (made (base s) (xor i j)).mask (2 ^ (made (base s) (xor i j)).depth)) (distances (base s) rs) ts limits)

        module _ (top : ℕ) (et : top ≡ greatest (take (length ts) gaps')) where
          top_is : top ≡ greatest (distances new rs)
          top_is = et ∙ ap greatest taken_next

          abbrev after : State
          after =
              record {
                masks = set s.masks s.len m;
                depths = set s.depths s.len w;
                len = s.len + 1;
                gaps = gaps';
                left = set s.left s.count i;
                right = set s.right s.count j;
                count = s.count + 1;
              }

          grown : base after ≡ new
          unfolding base
          grown =
              ap₂ base_of (ap (λ (u : ℕ). take u (set s.masks s.len m)) (add-one s.len) ∙ take-suc-set s.masks s.len m (omega (arith, p.within, p.wide)))
              (ap (λ (u : ℕ). take u (set s.depths s.len w)) (add-one s.len) ∙ take-suc-set s.depths s.len w (omega (arith, p.within, p.deep)))
              ∙ lines_snoc ms ds m w even
              ∙ ap (λ (l : Line). base_of ms ds ++ (l ∷ [])) (ap (line m) ew ∙ sym made_is)

          pub stepped : (g : List ℕ) → TakenIn h g m c (end_of top) → Stepped ts limits s after g i j
          stepped g f =
              record {
                lines_are = grown;
                long = refl;
                counted = refl;
                lefts = refl;
                rights = refl;
                wide = length-set s.masks s.len m ∙ p.wide;
                deep = length-set s.depths s.len w ∙ p.deep;
                shallow = shallow-set s.depths s.len w depth_small p.shallow;
                gaps_are = gaps_next ∙ ap (λ (l : List Line). padded most_outputs 0 (distances l rs)) (sym grown);
                tabled =
                    record {
                      bytes = t.bytes;
                      held =
                          subst (λ (l : List Line). Held g l (greatest (distances l rs))) (sym grown)
                          (subst (λ (l : Line). Held g (base s ++ (l ∷ [])) (greatest (distances (base s ++ (l ∷ [])) rs))) (sym (made_is ∙ ap (line m) (sym ew)))
                          (subst (Held g (base s ++ (line m w ∷ []))) (top_is ∙ ap (λ (l : Line). greatest (distances (base s ++ (l ∷ [])) rs)) (made_is ∙ ap (line m) (sym ew)))
                          (held_more h g m w c (greatest (distances (base s) rs)) top (base s) ec mask_byte (omega (arith, top_is, top_falls)) (omega (arith, top_is, top_falls, top_le)) t.held f)));
                    };
              }

    -- a state that stepped is poised again
    pub poised_next : (r : State) (g : List ℕ) → s.count < 224 → s.len + 1 < most_lines → Stepped ts limits s r g i j → Poised ts limits r
    poised_next r g q len e =
        let l = sym e.lines_are in
        record {
          within = omega (arith, e.long);
          wide = e.wide;
          deep = e.deep;
          shallow = e.shallow;
          paired = p.paired;
          few = p.few;
          sound = p.sound;
          alive = subst (λ (x : List Line). Alive x rs) l (alive_more (base s) (made (base s) (xor i j)) rs p.sound p.alive);
          near = subst (λ (x : List Line). sum (distances x rs) ≤ 4096) l (omega (arith, less.less, p.near));
          gaps_are = e.gaps_are;
        }

-- ---- the loop
step : (f : ℕ) (ls : List Line) (rs : List Row) (x : Bool) → 0 < f → eqb (sum (distances ls rs)) 0 ≡ x
    → greedy f ls rs ≡ cond x [] (next_gate ls rs ∷ greedy (f - 1) (ls ++ (made ls (next_gate ls rs) ∷ [])) rs)
step zero ls rs x h e = absurd (omega arith)
step (suc f) ls rs x h e = let p : suc f - 1 ≡ f = omega arith in rw (p, e)

module _ (first : List Line) (ts limits : List ℕ) (s : State) (z : SoFar first ts limits s) where
  abbrev rows : List Row
  rows = rows_of ts limits

  -- nothing more is taken
  ended : greedy (224 - s.count) (base s) rows ≡ [] → Grown first rows s
  ended e =
      let t : taken first rows ≡ z.so_far = z.written ∙ ap (λ (l : List Xor). z.so_far ++ l) e ∙ append-nil z.so_far in
      record {
        lines_are = sym (z.ran ∙ ap (run (base s)) e);
        lefts = z.lefts ∙ ap (λ (l : List Xor). padded most_gates 0 (map (λ (g : Xor). g.a) l)) (sym t);
        rights = z.rights ∙ ap (λ (l : List Xor). padded most_gates 0 (map (λ (g : Xor). g.b) l)) (sym t);
        counted = sym z.counted ∙ ap length (sym t);
        within = z.poised.within;
        shallow = z.poised.shallow;
      }

  pub grown_over : s.count < 224 → eqb (sum (distances (base s) rows)) 0 ≡ true → Grown first rows s
  grown_over q e = ended (step (224 - s.count) (base s) rows true (omega arith) e)

  pub stands_next : (h g : List ℕ) (r : State) (i j : ℕ) → Tabled ts limits s h → Next (base s) rows i j → s.count < 224 → Stepped ts limits s r g i j → SoFar first ts limits r
  stands_next h g r i j t nx q e =
      let b = sym e.lines_are in
      let f : 224 - s.count - 1 ≡ 224 - r.count = omega (arith, e.counted) in
      let more : greedy (224 - s.count) (base s) rows ≡ xor i j ∷ greedy (224 - r.count) (base r) rows =
      step (224 - s.count) (base s) rows false (omega arith) nx.left_to_do
      ∙ (λ u. nx.is u ∷ greedy (f u) (base s ++ (made (base s) (nx.is u) ∷ [])) rows)
      ∙ ap (λ (l : List Line). xor i j ∷ greedy (224 - r.count) l rows) b in
      record {
        poised = poised_next ts limits s z.poised h t i j nx r g q (omega (arith, z.long, z.few_inputs)) e;
        so_far = z.so_far ++ (xor i j ∷ []);
        counted = omega (arith, length-append z.so_far (xor i j ∷ []), z.counted, e.counted);
        upto = omega (arith, e.counted);
        written =
            z.written
            ∙ ap (λ (l : List Xor). z.so_far ++ l) more
            ∙ sym (append_assoc z.so_far (xor i j ∷ []) (greedy (224 - r.count) (base r) rows));
        ran = z.ran ∙ ap (run (base s)) more ∙ ap (λ (l : List Line). run l (greedy (224 - r.count) (base r) rows)) b;
        lefts = put (λ (x : Xor). x.a) s.left r.left i z.lefts e.lefts refl;
        rights = put (λ (x : Xor). x.b) s.right r.right j z.rights e.rights refl;
        few_inputs = z.few_inputs;
        long = omega (arith, z.long, e.long, e.counted);
      }
    where
      put : (f : Xor → ℕ) (old new : List ℕ) (v : ℕ) → old ≡ padded most_gates 0 (map f z.so_far) → new ≡ set old s.count v → f (xor i j) ≡ v
          → new ≡ padded most_gates 0 (map f (z.so_far ++ (xor i j ∷ [])))
      put f old new v a b k =
          b
          ∙ ap (λ (l : List ℕ). set l s.count v) a
          ∙ padded-put most_gates 0 (map f z.so_far) s.count v (omega (arith, length-map z.so_far f, z.counted)) (omega arith)
          ∙ ap (padded most_gates 0) (ap (λ (x : ℕ). map f z.so_far ++ (x ∷ [])) (sym k) ∙ sym (map_snoc f z.so_far (xor i j)))
