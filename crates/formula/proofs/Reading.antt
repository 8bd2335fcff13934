-- The ways of the reader's levels, over plain values: what the proof of the cycle cites.
use mathlib.Core.Path.{◌≡◌, refl, sym, ap, ◌∙◌}
use mathlib.Core.Bool.{Bool, true, false, cond}
use mathlib.Core.List.{List}
use Prim.Native.Nat.{ℕ, zero, suc, ◌+◌, ◌-◌, ◌≤◌, ◌<◌}
use native.Mathlib.Omega.{arith}
use lib.Dec.{leb, ltb}
use lib.ListN.{length}
use Rattle.std.specs.Prelude.{Option, Some, None, Ok, Err}
use Rattle.formula.specs.declared.Gates.{Gates}
use Rattle.formula.specs.declared.Why.{Why}
use Rattle.formula.specs.declared.Why.TheVariants.{Text}
use Rattle.formula.specs.Sizes.{longest}
use Rattle.formula.specs.Text.{word_end, in_class, seen, skip_of, tildes_of, wrap_with}
use Rattle.formula.specs.Tree.{Op, And, Xor, Or, sign_of, kind_no, Tree, neg, bin, Res, got, bad, unk, join_tree, not_tree}
use Rattle.formula.specs.Emit.{add_gate, new_line, Out, Read, read_at, worked_at, inverted_once, gates_of, line_of, failed, emitted}
use Rattle.formula.specs.Names.{named, name_by}
use Rattle.formula.specs.Levels.{close_tree, chain, level, bracket, paren_of, not_of, and_of, xor_of, or_of}
use borrow.Author.Tests.{leb-false}
use Rattle.formula.proofs.Laws.{past-ge, seen_in}
use Rattle.formula.specs.declared.Class.TheVariants.{Blank, Tilde}

-- ---- what a level gave, taken apart

abbrev pub place_in : Out → ℕ
place_in (Ok x) = x.0
place_in (Err w) = 0

abbrev pub line_in : Out → ℕ
line_in (Ok x) = x.1
line_in (Err w) = 0

-- a formula was read up to p, and it made the gates h and the line v of the gates g
pub record Made (g h : Gates) (p v : ℕ) (x : Res) : Type 0 where
  pub tree : Tree
  pub is : x ≡ got p tree
  pub gates : h ≡ gates_of tree g
  pub line : v ≡ line_of tree g

pub made_of : (g h : Gates) (p v : ℕ) (x : Res) → read_at h (Ok (p, v)) ≡ emitted g x → Made g h p v x
made_of g h p v (got q t) e =
    let z : p ≡ q = ap (λ (r : Read). place_in r.out) e in
    record { tree = t; is = rw z; gates = ap (λ (r : Read). r.gates) e; line = ap (λ (r : Read). line_in r.out) e }
made_of g h p v (bad q) e = let k = ap (λ (r : Read). r.out) e in let z : ◌≡◌ {A = ℕ} 0 1 = cc in absurd (omega arith)
made_of g h p v (unk q) e = let k = ap (λ (r : Read). r.out) e in let z : ◌≡◌ {A = ℕ} 0 1 = cc in absurd (omega arith)

-- a refusal stays, whatever comes after it
pub stays : (f : Res → Res) → ((q : ℕ) → f (bad q) ≡ bad q) → ((q : ℕ) → f (unk q) ≡ unk q) → (g g' h : Gates) (w : Why) (x : Res) → read_at h (Err w) ≡ emitted g x → read_at h (Err w) ≡ emitted g' (f x)
stays f fb fu g g' h w (got q t) e = let k = ap (λ (r : Read). r.out) e in let z : ◌≡◌ {A = ℕ} 0 1 = cc in absurd (omega arith)
stays f fb fu g g' h w (bad q) e = e ∙ ap (emitted g') (sym (fb q))
stays f fb fu g g' h w (unk q) e = e ∙ ap (emitted g') (sym (fu q))

-- what a formula makes, and a gate over two of them
made_is : (t : Tree) (g h : Gates) (p q v : ℕ) → h ≡ gates_of t g → v ≡ line_of t g → p ≡ q → read_at h (Ok (p, v)) ≡ emitted g (got q t)
made_is t g h p q v eh ev e = rw (eh, ev, e)

module _ (op : Op) (t t2 : Tree) (g h h' : Gates) (v u : ℕ) (eh : h ≡ gates_of t g) (ev : v ≡ line_of t g) (eh' : h' ≡ gates_of t2 h) (eu : u ≡ line_of t2 h) where
  bin_gates : (r : Gates) → r ≡ add_gate h' (kind_no op) v u → r ≡ gates_of (bin op t t2) g
  bin_gates r e = e ∙ rw (eh', eu, ev, eh)

  bin_line : (l : ℕ) → l ≡ new_line h'.count → l ≡ line_of (bin op t t2) g
  bin_line l e = e ∙ rw (eh', eh)

-- ---- ~ before what was read

abbrev read_pair : ℕ → Gates × ℕ → Read
read_pair q x = read_at x.0 (Ok (q, x.1))

wrapped : (s : List ℕ) (q f i : ℕ) (g : Gates) (t : Tree) → read_pair q (wrap_with inverted_once s f i (worked_at (gates_of t g) (line_of t g))) ≡ emitted g (wrap_with not_tree s f i (got q t))
unfolding wrap_with
wrapped s q zero i g t = refl
wrapped s q (suc f) i g t = by (seen s i 126) (wrapped s q f (i + 1) g)
  where
    by : (b : Bool) → ((t : Tree) → read_pair q (wrap_with inverted_once s f (i + 1) (worked_at (gates_of t g) (line_of t g))) ≡ emitted g (wrap_with not_tree s f (i + 1) (got q t)))
        → read_pair q (wrap_with inverted_once s f (i + 1) (cond b (inverted_once (worked_at (gates_of t g) (line_of t g))) (worked_at (gates_of t g) (line_of t g)))) ≡ emitted g (wrap_with not_tree s f (i + 1) (cond b (not_tree (got q t)) (got q t)))
    by true h = h (neg t)
    by false h = h t

wrap_stays : (s : List ℕ) (f i : ℕ) (r : Res) → not_tree r ≡ r → wrap_with not_tree s f i r ≡ r
unfolding wrap_with
wrap_stays s zero i r e = refl
wrap_stays s (suc f) i r e = by (seen s i 126) (wrap_stays s f (i + 1) r e)
  where
    by : (b : Bool) → wrap_with not_tree s f (i + 1) r ≡ r → wrap_with not_tree s f (i + 1) (cond b (not_tree r) r) ≡ r
    by true h = rw e h
    by false h = h

-- ---- the ways of a chain

-- the answer lies past p
abbrev pub Past : ℕ → Res → Type 0
Past p (got q t) = p < q
Past p (bad q) = p ≤ q
Past p (unk q) = p ≤ q

past-le : (p q : ℕ) (r : Res) → p ≤ q → Past q r → Past p r
past-le p q (got u t) h k = omega arith
past-le p q (bad u) h k = omega arith
past-le p q (unk u) h k = omega arith

-- a loop over a chain: h and v are what a formula made of g up to p, and what is still to be read from p gives the answer a
pub record Going (s : List ℕ) (op : Op) (o : ℕ → Res) (g : Gates) (a : Res) (h : Gates) (p v : ℕ) : Type 0 where
  pub fuel : ℕ
  pub tree : Tree
  pub gates : h ≡ gates_of tree g
  pub line : v ≡ line_of tree g
  pub enough : length s - p ≤ fuel
  pub same : chain s op o fuel (got p tree) ≡ a

module _ (s : List ℕ) (op : Op) (o : ℕ → Res) (g : Gates) where
  chain_bad : (f q : ℕ) → chain s op o f (bad q) ≡ bad q
  unfolding chain
  chain_bad zero q = refl
  chain_bad (suc f) q = refl

  chain_unk : (f q : ℕ) → chain s op o f (unk q) ≡ unk q
  unfolding chain
  chain_unk zero q = refl
  chain_unk (suc f) q = refl

  -- the operator does not stand there,
  chain_stop : (f p : ℕ) (t : Tree) → seen s p (sign_of op) ≡ false → chain s op o f (got p t) ≡ got p t
  unfolding chain
  chain_stop zero p t b = refl
  chain_stop (suc f) p t b = rw b

  -- or it does
  chain_more : (f p : ℕ) (t : Tree) → seen s p (sign_of op) ≡ true → length s - p ≤ f → chain s op o f (got p t) ≡ chain s op o (f - 1) (join_tree op t (o (p + 1)))
  unfolding chain
  chain_more zero p t b m = absurd (omega (arith, seen_in s p (sign_of op) b))
  chain_more (suc f) p t b m = let k : suc f - 1 ≡ f = omega arith in rw (k, b)

  module _ (at : ℕ) (h : Gates) where
    pub starts : (p v : ℕ) → read_at h (Ok (p, v)) ≡ emitted g (o at) → Going s op o g (level s op o at) h p v
    unfolding level
    starts p v e = let m = made_of g h p v (o at) e in record { fuel = length s; tree = m.tree; gates = m.gates; line = m.line; enough = omega arith; same = ap (chain s op o (length s)) (sym m.is) }

    pub start_refused : (w : Why) → read_at h (Err w) ≡ emitted g (o at) → read_at h (Err w) ≡ emitted g (level s op o at)
    unfolding level
    start_refused w e = stays (chain s op o (length s)) (chain_bad (length s)) (chain_unk (length s)) g g h w (o at) e

  -- what a loop does: an operand more, which makes h', or the end
  module _ (a : Res) (h : Gates) (p v : ℕ) (x : Going s op o g a h p v) where
    pub ends : seen s p (sign_of op) ≡ false → read_at h (Ok (p, v)) ≡ emitted g a
    ends b = rw (x.gates, x.line) (ap (emitted g) (sym (chain_stop x.fuel p x.tree b) ∙ x.same))

    module _ (b : seen s p (sign_of op) ≡ true) (h' : Gates) where
      pub goes_on : (q u : ℕ) (h'' : Gates) (l : ℕ) → read_at h' (Ok (q, u)) ≡ emitted h (o (p + 1)) → p < q → h'' ≡ add_gate h' (kind_no op) v u → l ≡ new_line h'.count → Going s op o g a h'' q l
      goes_on q u h'' l e m eh el =
          let y = made_of h h' q u (o (p + 1)) e in
          record {
            fuel = x.fuel - 1;
            tree = bin op x.tree y.tree;
            gates = bin_gates op x.tree y.tree g h h' v u x.gates x.line y.gates y.line h'' eh;
            line = bin_line op x.tree y.tree g h h' v u x.gates x.line y.gates y.line l el;
            enough = omega (arith, x.enough);
            same = ap (λ (r : Res). chain s op o (x.fuel - 1) (join_tree op x.tree r)) (sym y.is) ∙ sym (chain_more x.fuel p x.tree b x.enough) ∙ x.same;
          }

      pub refused_on : (w : Why) → read_at h' (Err w) ≡ emitted h (o (p + 1)) → read_at h' (Err w) ≡ emitted g a
      refused_on w e =
          stays (λ (r : Res). chain s op o (x.fuel - 1) (join_tree op x.tree r)) (chain_bad (x.fuel - 1)) (chain_unk (x.fuel - 1)) h g h' w (o (p + 1)) e
          ∙ ap (emitted g) (sym (chain_more x.fuel p x.tree b x.enough) ∙ x.same)

-- a level that goes forward ends past where it began
pub forth : (o : ℕ → Res) → ((p : ℕ) → Past p (o p)) → (p q v : ℕ) (g h : Gates) → read_at h (Ok (q, v)) ≡ emitted g (o p) → p < q
forth o adv p q v g h e = rw (made_of g h q v (o p) e).is at (adv p)

-- ---- each level goes forward

pub name_past : (s : List ℕ) (known : ℕ → ℕ → Option ℕ) (p : ℕ) → Past p (name_by s known p)
unfolding name_by
name_past s known p = by (word_end s p) (leb (word_end s p) p) refl (ltb longest (word_end s p - p)) (known p (word_end s p))
  where
    by : (e : ℕ) (b : Bool) → leb e p ≡ b → (d : Bool) (f : Option ℕ) → Past p (cond b (bad p) (cond d (bad (p + longest)) (named s e f)))
    by e true w d f = omega arith
    by e false w true f = omega arith
    by e false w false (Some v) = omega (arith, leb-false e p w, past-ge (in_class Blank) s e)
    by e false w false None = omega (arith, leb-false e p w)

join_past : (p : ℕ) (op : Op) (t : Tree) (x : Res) → Past p x → Past p (join_tree op t x)
join_past p op t (got q u) h = h
join_past p op t (bad q) h = h
join_past p op t (unk q) h = h

neg_past : (p : ℕ) (x : Res) → Past p x → Past p (not_tree x)
neg_past p (got q u) h = h
neg_past p (bad q) h = h
neg_past p (unk q) h = h

wrap_past : (s : List ℕ) (p f i : ℕ) (x : Res) → Past p x → Past p (wrap_with not_tree s f i x)
unfolding wrap_with
wrap_past s p zero i x h = h
wrap_past s p (suc f) i x h = wrap_past s p f (i + 1) (cond (seen s i 126) (not_tree x) x) (by (seen s i 126))
  where
    by : (b : Bool) → Past p (cond b (not_tree x) x)
    by true = neg_past p x h
    by false = h

close_past : (s : List ℕ) (p : ℕ) (r : Res) → Past p r → Past p (close_tree s r)
unfolding close_tree
close_past s p (bad q) h = h
close_past s p (unk q) h = h
close_past s p (got q t) h = by (seen s q 41)
  where
    by : (b : Bool) → Past p (cond b (got (skip_of s (q + 1)) t) (bad q))
    by true = omega (arith, past-ge (in_class Blank) s (q + 1))
    by false = omega arith

module _ (s : List ℕ) (op : Op) (o : ℕ → Res) (adv : (p : ℕ) → Past p (o p)) where
  chain-past : (f p : ℕ) (r : Res) → Past p r → Past p (chain s op o f r)
  unfolding chain
  chain-past zero p r h = h
  chain-past (suc f) p (bad q) h = h
  chain-past (suc f) p (unk q) h = h
  chain-past (suc f) p (got q t) h =
      by (seen s q (sign_of op)) (chain-past f p (join_tree op t (o (q + 1))) (join_past p op t (o (q + 1)) (past-le p (q + 1) (o (q + 1)) (omega arith) (adv (q + 1)))))
    where
      by : (b : Bool) → Past p (chain s op o f (join_tree op t (o (q + 1)))) → Past p (cond b (chain s op o f (join_tree op t (o (q + 1)))) (got q t))
      by true k = k
      by false k = h

  level-past : (p : ℕ) → Past p (level s op o p)
  unfolding level
  level-past p = chain-past (length s) p (o p) (adv p)

module _ (s : List ℕ) (nm : ℕ → Res) (nmp : (p : ℕ) → Past p (nm p)) where
  paren_from : (d : ℕ) → ((p : ℕ) → Past p (bracket s nm d p)) → (p : ℕ) → Past p (paren_of s nm d p)
  unfolding paren_of
  paren_from d h p = by (skip_of s p) (past-ge (in_class Blank) s p) (seen s (skip_of s p) 40)
    where
      by : (q : ℕ) → p ≤ q → (b : Bool) → Past p (cond b (bracket s nm d q) (nm q))
      by q k true = past-le p q (bracket s nm d q) k (h q)
      by q k false = past-le p q (nm q) k (nmp q)

  not_from : (d : ℕ) → ((p : ℕ) → Past p (bracket s nm d p)) → (p : ℕ) → Past p (not_of s nm d p)
  unfolding not_of
  not_from d h p =
      let q = tildes_of s p in
      wrap_past s p (q - p) p (paren_of s nm d q) (past-le p q (paren_of s nm d q) (past-ge (in_class Tilde) s p) (paren_from d h q))

  or_from : (d : ℕ) → ((p : ℕ) → Past p (bracket s nm d p)) → (p : ℕ) → Past p (or_of s nm d p)
  or_from d h = level-past s Or (xor_of s nm d) (level-past s Xor (and_of s nm d) (level-past s And (not_of s nm d) (not_from d h)))

  pub bracket_is : (d p : ℕ) → bracket s nm (suc d) p ≡ close_tree s (or_of s nm d (p + 1))
  unfolding bracket not_of paren_of
  bracket_is d p = refl

  pub bracket-past : (d p : ℕ) → Past p (bracket s nm d p)
  unfolding bracket
  bracket-past zero p = omega arith
  bracket-past (suc d) p = rw (bracket_is d p) (close_past s p (or_of s nm d (p + 1)) (past-le p (p + 1) (or_of s nm d (p + 1)) (omega arith) (or_from d (bracket-past d) (p + 1))))

  pub not-past : (d p : ℕ) → Past p (not_of s nm d p)
  not-past d = not_from d (bracket-past d)

  pub and-past : (d p : ℕ) → Past p (and_of s nm d p)
  and-past d = level-past s And (not_of s nm d) (not-past d)

  pub xor-past : (d p : ℕ) → Past p (xor_of s nm d p)
  xor-past d = level-past s Xor (and_of s nm d) (and-past d)

  pub or-past : (d p : ℕ) → Past p (or_of s nm d p)
  or-past d = level-past s Or (xor_of s nm d) (xor-past d)

  -- ---- the ways of an operand
  module _ (d at p : ℕ) (g : Gates) (e : p ≡ skip_of s at) where
    pub paren_name : (r : Read) → seen s p 40 ≡ false → r ≡ emitted g (nm p) → r ≡ emitted g (paren_of s nm d at)
    unfolding paren_of
    paren_name r b h = h ∙ rw (e, rw e at b)

    pub paren_deep : (r : Read) → d ≡ 0 → seen s p 40 ≡ true → r ≡ failed (Text p) → r ≡ emitted g (paren_of s nm d at)
    unfolding paren_of bracket
    paren_deep r z b h = h ∙ rw (z, e, rw e at b)

    module _ (z : d ≡ 0 → ⊥) (b : seen s p 40 ≡ true) where
      inside : close_tree s (or_of s nm (d - 1) (p + 1)) ≡ paren_of s nm d at
      unfolding paren_of
      inside =
          let n : suc (d - 1) ≡ d = omega arith in
          let q : bracket s nm d p ≡ paren_of s nm d at = rw (e, rw e at b) in
          sym (bracket_is (d - 1) p) ∙ ap (λ (n : ℕ). bracket s nm n p) n ∙ q

      module _ (h : Gates) where
        pub paren_refused : (w : Why) → read_at h (Err w) ≡ emitted g (or_of s nm (d - 1) (p + 1)) → read_at h (Err w) ≡ emitted g (paren_of s nm d at)
        unfolding close_tree
        paren_refused w k = stays (close_tree s) (λ q. refl) (λ q. refl) g g h w (or_of s nm (d - 1) (p + 1)) k ∙ ap (emitted g) inside

        module _ (q v : ℕ) (k : read_at h (Ok (q, v)) ≡ emitted g (or_of s nm (d - 1) (p + 1))) where
          pub paren_open : (r : Read) → seen s q 41 ≡ false → r ≡ failed (Text q) → r ≡ emitted g (paren_of s nm d at)
          unfolding close_tree
          paren_open r c f = let m = made_of g h q v (or_of s nm (d - 1) (p + 1)) k in let n : close_tree s (got q m.tree) ≡ bad q = rw c in f ∙ ap (emitted g) (sym n ∙ ap (close_tree s) (sym m.is) ∙ inside)

          pub paren_closed : (l : ℕ) → seen s q 41 ≡ true → l ≡ skip_of s (q + 1) → read_at h (Ok (l, v)) ≡ emitted g (paren_of s nm d at)
          unfolding close_tree
          paren_closed l c f =
              let m = made_of g h q v (or_of s nm (d - 1) (p + 1)) k in
              let n : close_tree s (got q m.tree) ≡ got (skip_of s (q + 1)) m.tree = rw c in
              made_is m.tree g h l (skip_of s (q + 1)) v m.gates m.line f ∙ ap (emitted g) (sym n ∙ ap (close_tree s) (sym m.is) ∙ inside)

  module _ (d at p : ℕ) (g h : Gates) (e : p ≡ tildes_of s at) where
    pub not_refused : (w : Why) → read_at h (Err w) ≡ emitted g (paren_of s nm d p) → read_at h (Err w) ≡ emitted g (not_of s nm d at)
    unfolding not_of
    not_refused w k = stays (wrap_with not_tree s (p - at) at) (λ q. wrap_stays s (p - at) at (bad q) refl) (λ q. wrap_stays s (p - at) at (unk q) refl) g g h w (paren_of s nm d p) k ∙ rw e

    pub not_in : (q v : ℕ) (h' : Gates) (l : ℕ) → read_at h (Ok (q, v)) ≡ emitted g (paren_of s nm d p) → worked_at h' l ≡ wrap_with inverted_once s (p - at) at (worked_at h v) → read_at h' (Ok (q, l)) ≡ emitted g (not_of s nm d at)
    unfolding not_of
    not_in q v h' l k f =
        let m = made_of g h q v (paren_of s nm d p) k in
        ap (read_pair q) f
        ∙ ap (λ (x : Gates × ℕ). read_pair q (wrap_with inverted_once s (p - at) at x)) (λ i. worked_at (m.gates i) (m.line i))
        ∙ wrapped s q (p - at) at g m.tree
        ∙ ap (λ (r : Res). emitted g (wrap_with not_tree s (p - at) at r)) (sym m.is)
        ∙ rw e
