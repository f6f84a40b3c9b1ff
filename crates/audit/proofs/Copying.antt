-- These laws show that a field byte whose copy bit is set is output as it came in, and that both guard bytes are copied
-- if the sides have one guard type and seed.
use mathlib.Core.Path.{◌≡◌, refl, sym, ap, ◌∙◌}
use mathlib.Core.Bool.{beq, Bool, true, false, ◌&&◌, cond}
use mathlib.Core.List.{List, [], ◌∷◌, ◌++◌}
use Prim.Native.Nat.{ℕ, zero, suc, ◌+◌, ◌*◌, ◌/◌, ◌%◌, ◌<◌}
use native.Mathlib.Nat.{zero-add}
use native.Mathlib.Omega.{arith}
use lib.Dec.{eqb}
use borrow.Author.Tests.{eq-eqb}
use lib.ListN.{length, take, drop, get_or}
use lib.Seq.{get_or-take, get_or-drop, get_or-append-add}
use Rattle.guard.specs.Guards.{Bytes}
use Rattle.field.specs.declared.ProtectionField.{ProtectionField}
use Rattle.field.specs.declared.Domain.{Domain}
use Rattle.field.specs.Tests.{bit}
use Rattle.field.specs.Domains.{signed, remaps}
use Rattle.field.specs.Fields.{guard_bits, application_bits, reference_bits, bytes_of, bytes_in, field_of}
use Rattle.field.specs.Output.{agreed, copy_mask, merged, output_field}
use Rattle.layout.specs.Pieces.{places}
use Rattle.layout.proofs.MoveLaws.{length-gathered, gathered_at}
use Rattle.key.specs.declared.Key.{Key}
use Rattle.key.specs.Streams.{stream_length}
use Rattle.engine.specs.declared.Rule.{Rule}
use Rattle.engine.specs.Streams.{block_size, field_size, unit_size, in_block, in_unit, out_block, out_unit, input_block, input_field}
use Rattle.engine.specs.Transfers.{joined, field_after}
use Rattle.engine.specs.Inner.Standing.{unit_out}
use Rattle.engine.proofs.Joined.{joined_block}
use Rattle.engine.proofs.Units.{unit_within}
use Rattle.engine.proofs.Settling.{bytes_take}
use Rattle.transfer.specs.Rules.{send_rule, receive_rule, output_of}
use Rattle.transfer.specs.Transferring.{memory_stream, wire_stream}
use Rattle.transfer.proofs.Laws.{Agree, agree_back, stream_units}
use Rattle.transfer.proofs.SendLaws.{bytes_gathered}
use Rattle.audit.specs.Copying.{field_byte, SendCopies, ReceiveCopies, SendKeepsGuard, ReceiveKeepsGuard}
use Rattle.audit.proofs.Ranges.{two_below}
use Rattle.audit.proofs.FieldBytes.{split_joined, found_bytes}
use Rattle.audit.proofs.Destination.{output_units, block_size_lem, unit_size_lem, told, memory_length, wire-length, send_fills, receive_fills}

-- ---- bytes of a field

either_small : (c : Bool) (x y : ℕ) → x < 256 → y < 256 → cond c x y < 256
either_small true x y h l = h
either_small false x y h l = l

-- Byte k of an output field is byte k of the input field if the copy mask contains it.
copied_byte : (m : ℕ) (f g : ProtectionField) (k : ℕ) → k < 8 → get_or (bytes_in m) k false ≡ true → get_or (bytes_of (output_field m f g)) k 0 ≡ get_or (bytes_of f) k 0
unfolding output_field merged bytes_of
copied_byte m f g k h c =
    ap (λ (l : List ℕ). get_or l k 0)
    (split_joined _ _ _ _ _ _ _ _
    (either_small (bit m 64) (f.guard % 256) (g.guard % 256) (omega arith) (omega arith))
    (either_small (bit m 16) (f.application % 256) (g.application % 256) (omega arith) (omega arith))
    (either_small (bit m 4) (f.reference / 65536 % 256) (g.reference / 65536 % 256) (omega arith) (omega arith))
    (either_small (bit m 2) (f.reference % 65536 / 256) (g.reference % 65536 / 256) (omega arith) (omega arith))
    (either_small (bit m 1) (f.reference % 65536 % 256) (g.reference % 65536 % 256) (omega arith) (omega arith)))
    ∙ merged_at (bytes_in m) (bytes_of f) (bytes_of g) k (omega arith) (omega arith) (omega arith) c
  where
    merged_at : (cs : List Bool) (xs ys : List ℕ) (k : ℕ) → k < length cs → k < length xs → k < length ys → get_or cs k false ≡ true → get_or (merged cs xs ys) k 0 ≡ get_or xs k 0
    merged_at [] xs ys k l n o c = absurd (omega arith)
    merged_at (b ∷ cs) [] ys k l n o c = absurd (omega arith)
    merged_at (b ∷ cs) (x ∷ xs) [] k l n o c = absurd (omega arith)
    merged_at (b ∷ cs) (x ∷ xs) (y ∷ ys) zero l n o c = rw c
    merged_at (b ∷ cs) (x ∷ xs) (y ∷ ys) (suc k) l n o c = merged_at cs xs ys k (omega arith) (omega arith) (omega arith) c

-- ---- bytes of the streams

module _ (r : Rule) (data_length : ℕ) (g : Agree r.input r.output data_length) (stream : List ℕ) (l : length stream ≡ stream_length r.input data_length)
    (b : Bytes stream) (s : signed r.input ≡ true) (t : signed r.output ≡ true) (j : ℕ) (h : j < data_length / in_block r) (k : ℕ) (i : k < 8) where
  -- An output field has eight bytes.
  eight' : field_size r.output ≡ 8
  unfolding field_size
  eight' = rw t

  -- The bytes after block j in the output stream are those of the rule's output field.
  went : get_or (output_of r stream data_length) (j * out_unit r + out_block r + k) 0 ≡ get_or (field_after r stream j (input_block r stream j)) k 0
  went =
      let n = data_length / in_block r in
      let units = joined ◌++◌ [] (unit_out r stream) 0 n in
      let at : j * out_unit r + out_block r + k ≡ j * out_unit r + (out_block r + k) = omega arith in
      let size : out_block r ≡ length (input_block r stream j) = sym (block_size_lem r data_length g stream l j h) in
      let unit : take (out_unit r) (drop (j * out_unit r) units) ≡ unit_out r stream j = joined_block (unit_out r stream) (out_unit r) 0 n (unit_size_lem r data_length g stream l) j h ∙ rw (zero-add j) in
      rw (output_units r data_length g stream l, at)
      (sym (get_or-drop (j * out_unit r) units (out_block r + k) 0) ∙ sym (get_or-take (out_unit r) (drop (j * out_unit r) units) (out_block r + k) 0 (omega (arith, eight')))
      ∙ ap (λ (l : List ℕ). get_or l (out_block r + k) 0) unit ∙ ap (λ (m : ℕ). get_or (unit_out r stream j) (m + k) 0) size
      ∙ get_or-append-add (input_block r stream j) (field_after r stream j (input_block r stream j)) k 0)

  -- A copied field byte of the output stream is that of the input stream.
  pub copied_on : get_or (bytes_in r.copy_mask) k false ≡ true
      → get_or (output_of r stream data_length) (j * out_unit r + out_block r + k) 0 ≡ get_or stream (j * in_unit r + in_block r + k) 0
  unfolding field_after
  copied_on c = went ∙ rw t (copied_byte r.copy_mask (field_of (input_field r stream j)) _ k i c ∙ found_bytes r stream b s j k i)

-- The laws of this module are about a signed domain with blocks of z bytes.
module _ (a b : Domain) (z : ℕ) (s : signed a ≡ true) (e : a.block_size ≡ z) where
  -- The domain's block size is z.
  block_is : block_size a b ≡ z
  unfolding block_size
  block_is = rw s e

  -- The domain's units have z + 8 bytes.
  unit_is : unit_size a b ≡ z + 8
  unfolding field_size
  unit_is = rw (block_is, s)

  -- Byte k of the field after block j lies in the domain's stream.
  within : (data_length : ℕ) → Agree a b data_length → (j : ℕ) → j < data_length / z → (k : ℕ) → k < 8 → j * (z + 8) + z + k < stream_length a data_length
  within data_length g j h k i =
      let size : stream_length a data_length ≡ data_length / z * (z + 8) =
      stream_units a b data_length g ∙ ap (λ (n : ℕ). data_length / n * unit_size a b) block_is ∙ ap (λ (u : ℕ). data_length / z * u) unit_is in
      omega (arith, unit_within j (data_length / z) (z + 8) h)

-- If both sides are signed and have one block size, a copied field byte is at the same offset of both streams.
copied_at : (r : Rule) (data_length z : ℕ) → Agree r.input r.output data_length → (stream : List ℕ) → length stream ≡ stream_length r.input data_length → Bytes stream
    → signed r.input ≡ true → signed r.output ≡ true → r.input.block_size ≡ z → r.output.block_size ≡ z
    → (j : ℕ) → j < data_length / z → (k : ℕ) → k < 8 → get_or (bytes_in r.copy_mask) k false ≡ true
    → get_or (output_of r stream data_length) (j * (z + 8) + z + k) 0 ≡ get_or stream (j * (z + 8) + z + k) 0
copied_at r data_length z g stream l b s t y y' j h k i c =
    let u = unit_is r.input r.output z s y in
    let v = block_is r.input r.output z s y in
    let u' = unit_is r.output r.input z t y' in
    let v' = block_is r.output r.input z t y' in
    let here : j * out_unit r + out_block r + k ≡ j * (z + 8) + z + k = omega (arith, ap (λ (n : ℕ). j * n) u') in
    let there : j * in_unit r + in_block r + k ≡ j * (z + 8) + z + k = omega (arith, ap (λ (n : ℕ). j * n) u) in
    ap (λ (p : ℕ). get_or (output_of r stream data_length) p 0) (sym here) ∙ copied_on r data_length g stream l b s t j (rw v h) k i c ∙ ap (λ (p : ℕ). get_or stream p 0) there

-- ---- accepted transfers

module _ (k : Key) (memory wire : List ℕ) (offset data_length : ℕ) where
  abbrev z : ℕ
  z = k.signature.wire.block_size

  -- An accepted send outputs each field byte whose copy bit is set as it is in memory.
  pub send_copies : SendCopies k memory wire offset data_length
  send_copies c e b s i h m j l =
      let g = (told k memory wire offset data_length c e).agree in
      let y = g.alike s.memory s.wire in
      let n = stream_length k.signature.memory data_length in
      let ps = take n (drop offset (places k.layout)) in
      let p = field_byte k j i in
      let inside = within k.signature.memory k.signature.wire z s.memory y data_length g j l i h in
      let inside' = within k.signature.wire k.signature.memory z s.wire refl data_length (agree_back g) j l i h in
      let size = memory_length k memory wire offset data_length c e in
      (send_fills k memory wire offset data_length c e).inside p inside'
      ∙ copied_at (send_rule k.signature) data_length z g (memory_stream k memory offset data_length) size (bytes_gathered memory ps b) s.memory s.wire y refl j l i h m
      ∙ gathered_at memory ps p (omega (arith, size, length-gathered memory ps))
      ∙ ap (λ (q : ℕ). get_or memory q 0) (get_or-take n (drop offset (places k.layout)) p 0 inside ∙ get_or-drop offset (places k.layout) p 0)

  -- An accepted receive outputs each field byte whose copy bit is set as it is on the wire.
  pub receive_copies : ReceiveCopies k memory wire offset data_length
  receive_copies c e b s i h m j l =
      let g = (told k memory wire offset data_length c e).agree in
      let y = g.alike s.memory s.wire in
      let n = stream_length k.signature.wire data_length in
      let p = field_byte k j i in
      let inside = within k.signature.memory k.signature.wire z s.memory y data_length g j l i h in
      let inside' = within k.signature.wire k.signature.memory z s.wire refl data_length (agree_back g) j l i h in
      (receive_fills k memory wire offset data_length c e).inside p inside
      ∙ copied_at (receive_rule k.signature) data_length z (agree_back g) (wire_stream k wire data_length) (wire-length k memory wire offset data_length c e) (bytes_take n wire b)
      s.wire s.memory refl y j l i h m
      ∙ get_or-take n wire p 0 inside'

-- ---- the bytes that are copied without a given copy mask

-- The bytes of a mask that has or lacks all bits of each tag.
tag_bytes : (g t r : Bool) → bytes_in (cond g guard_bits 0 + cond t application_bits 0 + cond r reference_bits 0) ≡ g ∷ g ∷ t ∷ t ∷ r ∷ r ∷ r ∷ r ∷ []
tag_bytes true true true = refl
tag_bytes true true false = refl
tag_bytes true false true = refl
tag_bytes true false false = refl
tag_bytes false true true = refl
tag_bytes false true false = refl
tag_bytes false false true = refl
tag_bytes false false false = refl

-- With attribute flags 0 and two signed domains, the bytes of each tag are copied if the domains agree in it.
pub copied_bytes : (mask : ℕ) (a b : Domain) → signed a ≡ true → signed b ≡ true
    → let g = eqb a.guard_type b.guard_type && eqb a.seed b.seed in
    let t = eqb a.application_tag b.application_tag in
    let r = eqb a.reference_tag b.reference_tag && (beq (remaps a) (remaps b) && eqb a.edition b.edition) in
    bytes_in (copy_mask 0 mask a b) ≡ g ∷ g ∷ t ∷ t ∷ r ∷ r ∷ r ∷ r ∷ []
unfolding copy_mask agreed
copied_bytes mask a b s t =
    rw (s, t)
    (tag_bytes (eqb a.guard_type b.guard_type && eqb a.seed b.seed) (eqb a.application_tag b.application_tag)
    (eqb a.reference_tag b.reference_tag && (beq (remaps a) (remaps b) && eqb a.edition b.edition)))

-- ---- the guard

-- The first two of eight.
first_two : (g t r : Bool) → g ≡ true → (i : ℕ) → i < 2 → get_or (g ∷ g ∷ t ∷ t ∷ r ∷ r ∷ r ∷ r ∷ []) i false ≡ true
first_two g t r h = two_below (λ (i : ℕ). get_or (g ∷ g ∷ t ∷ t ∷ r ∷ r ∷ r ∷ r ∷ []) i false ≡ true) h h

-- With attribute flags 0, and one guard type and seed on both sides, the copy mask in force contains both guard bytes.
guard_bits_lem : (attributes mask : ℕ) (a b : Domain) → attributes ≡ 0 → signed a ≡ true → signed b ≡ true → a.guard_type ≡ b.guard_type → a.seed ≡ b.seed
    → (i : ℕ) → i < 2 → get_or (bytes_in (copy_mask attributes mask a b)) i false ≡ true
guard_bits_lem attributes mask a b f s t g e i h =
    let same : eqb a.guard_type b.guard_type && eqb a.seed b.seed ≡ true = rw (eq-eqb a.guard_type b.guard_type g, eq-eqb a.seed b.seed e) in
    ap (λ (l : List Bool). get_or l i false) (ap (λ (n : ℕ). bytes_in (copy_mask n mask a b)) f ∙ copied_bytes mask a b s t)
    ∙ first_two (eqb a.guard_type b.guard_type && eqb a.seed b.seed) _ _ same i h

module _ (k : Key) (memory wire : List ℕ) (offset data_length : ℕ) where
  -- With one guard type and seed, an accepted send outputs both guard bytes as they are in memory.
  pub send_keeps_guard : SendKeepsGuard k memory wire offset data_length
  send_keeps_guard c e b s o i h =
      send_copies k memory wire offset data_length c e b s i (omega arith)
      (guard_bits_lem k.signature.attribute_flags k.signature.copy_mask k.signature.memory k.signature.wire o.flag s.memory s.wire o.type o.seed i h)

  -- With one guard type and seed, an accepted receive outputs both guard bytes as they are on the wire.
  pub receive_keeps_guard : ReceiveKeepsGuard k memory wire offset data_length
  receive_keeps_guard c e b s o i h =
      receive_copies k memory wire offset data_length c e b s i (omega arith)
      (guard_bits_lem k.signature.attribute_flags k.signature.copy_mask k.signature.wire k.signature.memory o.flag s.wire s.memory (sym o.type) (sym o.seed) i h)
