-- A file whose circuit is stored: what the circuit gives is what the file says, it is made of what the file is made of, and
-- what is stored opens.
use Rattle.std.specs.Prelude.{Result, Ok, Err}
use mathlib.Core.Path.{◌≡◌, refl, sym, ap, subst}
use mathlib.Core.Bool.{Bool, true, false, cond}
use mathlib.Core.List.{List}
use Prim.Native.Nat.{ℕ, ◌≤◌, ◌<◌}
use native.Mathlib.Omega.{arith}
use lib.ListN.{length}
use Rattle.circuit.specs.declared.Circuit.{Circuit}
use Rattle.circuit.specs.Rules.{done}
use Rattle.circuit.specs.Sizes.{most_outputs, most_gates}
use Rattle.circuit.specs.Lines.{output_on}
use Rattle.circuit.specs.Structs.{out_of, listed}
use Rattle.circuit.specs.Rules.{shaped, listing_answer}
use Rattle.circuit.proofs.Shapes.{shape_is}
use Rattle.circuit.proofs.Upto.{upto-length}
use Rattle.stored.specs.Reading.{read_stored}
use Rattle.stored.proofs.Round.{read-stored}
use Rattle.grammar.specs.File.{Assignment, File}
use Rattle.sheet.specs.declared.Book.{Book}
use Rattle.formula.specs.declared.Why.{Why}
use Rattle.sheet.specs.Sheet.{file_of}
use Rattle.drawing.specs.declared.Refusal.TheVariants.{NoOutputs}
use Rattle.drawing.specs.Outputs.{top_of}
use Rattle.drawing.specs.Numbering.{circuit_of}
use Rattle.drawing.specs.Drawing.{numbers_in, whole_book, circuit_in, sketch_book, sketch_by, sketch_of, circuit_or, drawn_circuit, drawn_answer, drawn_bytes}
use Rattle.drawing.proofs.Writer.{write_size}
use Rattle.drawing.proofs.Rooms.{is_stored}
use Rattle.place.proofs.Place.{read_good}
use Rattle.meaning.specs.Meaning.{file_says, MadeOf}
use Rattle.meaning.proofs.Circuits.{few-outputs}
use Rattle.meaning.proofs.Says.{outs_is, circuit_says, opens_listing, circuit_made}

module _ (s : List ℕ) (room k : ℕ) (e : drawn_answer s room ≡ Ok k) where
  abbrev b : Book
  b = (file_of s).book

  -- the file was read, and its book is whole
  pub record Drawn : Type 0 where
    pub end : ℕ
    pub read : (file_of s).step ≡ Ok end
    pub ok : whole_book s b ≡ true
    pub is : (drawn_circuit s) ≡ circuit_in s b
    pub fits : b.gates.count ≤ most_gates
    pub few : top_of (numbers_in s b) b.names.n ≤ most_outputs

  -- what the sizes of its circuit show of it
  sizes : shaped (circuit_in s b).n (circuit_in s b).m (circuit_in s b).g ≡ true → (b.gates.count ≤ most_gates) × (top_of (numbers_in s b) b.names.n ≤ most_outputs)
  unfolding circuit_of
  sizes h = let w = shape_is _ _ _ h in (w.g_most, omega (arith, w.m_most, few-outputs (top_of (numbers_in s b) b.names.n)))

  pub drawn : Drawn
  unfolding sketch_of sketch_book
  drawn = let w = is_stored s room k e in by (file_of s).step refl w.sound (write_size (drawn_circuit s) room k w.written).shape
    where
      -- whether the circuit that was found is fit to be stored
      Fits : Circuit → Type 0
      Fits c = shaped c.n c.m c.g ≡ true

      on : (q : ℕ) → (file_of s).step ≡ Ok q → (t : Bool) → whole_book s b ≡ t
          → let c = cond t (Ok (circuit_in s b)) (Err NoOutputs) in sketch_of s ≡ c → c ≡ Ok (drawn_circuit s) → Fits (drawn_circuit s) → Drawn
      on q r true w i v h =
          let k : drawn_circuit s ≡ circuit_in s b = ap circuit_or i in
          let z = sizes (subst Fits k h) in
          record { end = q; read = r; ok = w; is = k; fits = z.0; few = z.1 }
      on q r false w i v h = let z : ◌≡◌ {A = ℕ} 0 1 = cc in absurd (omega arith)

      by : (x : Result ℕ Why) → (file_of s).step ≡ x → sketch_by s b x ≡ Ok (drawn_circuit s) → Fits (drawn_circuit s) → Drawn
      by (Ok q) r v h = on q r (whole_book s b) refl (ap (sketch_by s b) r) v h
      by (Err w) r v h = let z : ◌≡◌ {A = ℕ} 0 1 = cc in absurd (omega arith)

  -- the circuit of the answer is that of the book
  by_book : (P : Circuit → Type 0) → P (circuit_in s b) → P (drawn_circuit s)
  by_book P = subst P (sym drawn.is)

  -- each output gives what the file says of it
  pub stored-says : (l : List Assignment) → File s l → (x j : ℕ) → j < length (listed (drawn_circuit s)).outs → output_on (listed (drawn_circuit s)) x j ≡ file_says s l x j
  stored-says l file x j =
      let d = drawn in
      by_book (λ (c : Circuit). j < length (listed c).outs → output_on (listed c) x j ≡ file_says s l x j)
      (λ h. circuit_says s l file d.end d.read d.fits d.ok d.few x j
      (omega (arith, upto-length (out_of (circuit_in s b)) (circuit_in s b).m, outs_is s l file d.end d.read d.fits d.ok d.few)))

  -- it is made of what the file is made of
  pub stored-made : (l : List Assignment) → File s l → MadeOf s l (listed (drawn_circuit s))
  stored-made l file =
      let d = drawn in
      by_book (λ (c : Circuit). MadeOf s l (listed c))
      (circuit_made s l file d.end d.read d.fits d.ok d.few)

  -- no open refuses it but for its target,
  pub opens_circuit : listing_answer false (listed (drawn_circuit s)) ≡ done
  opens_circuit =
      let d = drawn in
      let g = read_good s d.end d.read in
      by_book (λ (c : Circuit). listing_answer false (listed c) ≡ done) (opens_listing s g.reading g.file d.end d.read d.fits d.ok d.few)

  -- and the bytes are read back as it
  pub opens : read_stored false (drawn_bytes s) ≡ Ok (listed (drawn_circuit s))
  unfolding drawn_bytes
  opens = read-stored false (listed (drawn_circuit s)) opens_circuit
