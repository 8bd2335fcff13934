-- What a bench holds for its lines, said from its words, is what the circuit's lines have. Assumes nothing.
use mathlib.Core.Path.{◌≡◌, refl, ap, ◌∙◌}
use mathlib.Core.Bool.{Bool, cond}
use mathlib.Core.List.{List, ◌++◌}
use Prim.Native.Nat.{ℕ, ◌+◌, ◌-◌, ◌*◌, ◌≤◌, ◌<◌}
use native.Mathlib.Omega.{arith}
use lib.ListN.{length, get_or}
use Rattle.circuit.specs.declared.Words.{Words}
use Rattle.circuit.specs.declared.Refusal.TheVariants.{NothingOpen}
use Rattle.circuit.specs.Sizes.{most_inputs, most_lines, most_values}
use Rattle.circuit.specs.Gate.{no_words, value_in}
use Rattle.circuit.specs.Lines.{gate_at, depths, and_depths, words}
use Rattle.circuit.proofs.Shapes.{Shaped, shape_is}
use Rattle.circuit.proofs.Upto.{upto_same}
use Rattle.circuit.proofs.WordLaws.{words-values}
use Rattle.circuit.proofs.Padding.{pad_read}
use Rattle.bench.specs.declared.Bench.{Bench}
use Rattle.bench.specs.State.{State, Sound, Present, nothing, present}
use Rattle.bench.specs.Held.{empty_bench, full_bench, Stands}
use Rattle.bench.proofs.Standing.{full_standing}
use Rattle.text.specs.Numbers.{hex_text, labelled}
use Rattle.listing.specs.Printed.{new_line, refused_text}
use Rattle.listing.proofs.Listed.{lines_same}
use Rattle.talk.specs.Words.{held_name}
use Rattle.talk.specs.Texts.{value_bytes, value_bits, byte_of, values_text, group_text, line_value_on, line_group, lines_held, held_text}
use Rattle.talk.specs.Saying.{group_in, lines_held_in, held_in}
use Rattle.talk.proofs.Packing.{packed_same, few_values}

-- values that agree on every input have one text
values_same : (f h : ℕ → ℕ) (n : ℕ) → n ≤ most_inputs → ((x : ℕ) → x < most_values → f x ≡ h x) → values_text f n ≡ values_text h n
unfolding values_text
values_same f h n small e =
    ap hex_text (upto_same (byte_of f n) (byte_of h n) (value_bytes n) (λ j l.
    packed_same (λ (b : ℕ). f (8 * j + b)) (λ (b : ℕ). h (8 * j + b)) (value_bits n) (λ b k. e (8 * j + b) (omega (arith, few_values n small)))))

module _ (s : State) (ok : Sound s) where
  -- the group of a line
  group_same : (i : ℕ) → group_in (full_bench s) i ≡ line_group s.circuit i
  unfolding full_bench
  group_same i =
      let c = s.circuit in
      let n = c.inputs in
      let g = length c.gates in
      let r : Shaped n (length c.outs) g = shape_is n (length c.outs) g (full_standing s ok) in
      let d = pad_read (depths n (gate_at c) g) (most_lines - length (depths n (gate_at c) g)) i 0 in
      let a = pad_read (and_depths n (gate_at c) g) (most_lines - length (and_depths n (gate_at c) g)) i 0 in
      let w = pad_read (words n (gate_at c) g) (most_lines - length (words n (gate_at c) g)) i no_words in
      let v = ap (λ (x : Words). values_text (value_in x) n) w
      ∙ values_same (value_in (get_or (words n (gate_at c) g) i no_words)) (line_value_on c i) n r.n_most (λ x h. words-values n x (gate_at c) g i h r.n_most) in
      λ k. group_text i (d k) (a k) (v k)

  -- all groups
  lines-held : lines_held_in (full_bench s) ≡ lines_held s.circuit
  unfolding lines_held_in full_bench
  lines-held =
      let count = s.circuit.inputs + length s.circuit.gates in
      ap (λ (l : List ℕ). labelled held_name count ++ l ++ new_line) (lines_same (group_in (full_bench s)) (line_group s.circuit) count (λ i h. group_same i))

  -- what is said of the bench of a state
  full_held : held_in (full_bench s) ≡ lines_held s.circuit
  unfolding full_bench
  full_held = ap (λ (t : Bool). cond t (lines_held_in (full_bench s)) (refused_text NothingOpen)) (full_standing s ok) ∙ lines-held

-- and of a bench with nothing open
empty_held : held_in empty_bench ≡ refused_text NothingOpen
unfolding empty_bench
empty_held = refl

-- what `held` says of a bench that stands for p
pub held_is : (b : Bench) (p : Present) → Stands b p → held_in b ≡ held_text p
held_is b nothing k = ap held_in k.is ∙ empty_held
held_is b (present s) k = ap held_in k.is ∙ full_held s k.sound
