-- These laws prove demand 2 for bytes, and demand 1 for send and receive: an accepted transfer stores its output in its
-- destination and changes no other byte, and a refused one changes nothing.
use Rattle.std.specs.Prelude.{Ok}
use mathlib.Core.Path.{◌≡◌, refl, sym, ap, ◌∙◌}
use mathlib.Core.Bool.{Bool, true, false}
use mathlib.Core.List.{List, [], ◌++◌}
use Prim.Native.Nat.{ℕ, zero, suc, ◌+◌, ◌-◌, ◌*◌, ◌/◌, ◌≤◌, ◌<◌}
use native.Mathlib.Nat.{suc-mul, zero-mul}
use native.Mathlib.Omega.{arith}
use lib.ListN.{length, drop, get_or, length-append, length-drop, get_or-append}
use lib.Seq.{length-take-le, get_or-drop, get_or-append-add}
use Rattle.field.specs.Domains.{signed}
use Rattle.field.specs.Fields.{bytes_of}
use Rattle.layout.specs.Pieces.{pieces, places}
use Rattle.layout.specs.Moves.{scattered}
use Rattle.layout.proofs.PieceLaws.{length-places}
use Rattle.layout.proofs.MoveLaws.{length-gathered, length-scattered, scattered_other, scattered_at, distinct_drop, below_drop}
use Rattle.layout.proofs.AnswerLaws.{sound_distinct, within_below}
use Rattle.key.specs.declared.Key.{Key}
use Rattle.key.specs.Keys.{CameFromCalls}
use Rattle.key.specs.Streams.{stream_length}
use Rattle.key.proofs.Laws.{came_valid, configure_done}
use Rattle.engine.specs.declared.Rule.{Rule}
use Rattle.engine.specs.Streams.{field_size, in_block, in_unit, out_block, out_unit, input_block}
use Rattle.engine.specs.Transfers.{joined, field_after, output_stream}
use Rattle.engine.specs.Inner.Standing.{unit_out}
use Rattle.engine.proofs.Units.{block_length, by_units}
use Rattle.transfer.specs.Rules.{send_rule, receive_rule, output_of}
use Rattle.transfer.specs.Transferring.{memory_stream, wire_stream, answer_of, wire_after_send, memory_after_receive, send_result, receive_result}
use Rattle.transfer.proofs.Laws.{Agree, agree_back, same_size, stream_units, Accepted, accept}
use Rattle.audit.specs.Destination.{send_output, receive_output, SendFills, ReceiveFills, RefusedSend, RefusedReceive}

-- ---- the length of the output

-- Joined lists of equal length are as long as their number times that length.
joined_length : (f : ℕ → List ℕ) (size i n : ℕ) → ((k : ℕ) → k < i + n → length (f k) ≡ size) → length (joined ◌++◌ [] f i n) ≡ n * size
unfolding joined
joined_length f size i zero h = sym (zero-mul size)
joined_length f size i (suc n) h =
    length-append (f i) (joined ◌++◌ [] f (suc i) n) ∙ omega (arith, h i (omega arith), joined_length f size (suc i) n (λ k l. h k (omega arith)), suc-mul n size)

-- The field after an output block is as long as the output domain's fields.
field_length : (r : Rule) (stream : List ℕ) (i : ℕ) (block : List ℕ) → length (field_after r stream i block) ≡ field_size r.output
unfolding field_after field_size bytes_of
field_length r stream i block = go (signed r.output) refl
  where
    go : (b : Bool) → signed r.output ≡ b → length (field_after r stream i block) ≡ field_size r.output
    go true e = rw e
    go false e = rw e

module _ (r : Rule) (data_length : ℕ) (g : Agree r.input r.output data_length) (stream : List ℕ) (l : length stream ≡ stream_length r.input data_length) where
  -- Both sides have the same block size.
  same : out_block r ≡ in_block r
  same = same_size r.input r.output data_length g

  -- The input stream is long enough for its units.
  all_units : data_length / in_block r * in_unit r ≤ length stream
  all_units = omega (arith, stream_units r.input r.output data_length g)

  -- The output stream is its units joined.
  pub output_units : output_of r stream data_length ≡ joined ◌++◌ [] (unit_out r stream) 0 (data_length / in_block r)
  output_units = ap (λ (m : ℕ). output_stream r stream (data_length / in_block r) (data_length / m)) same ∙ by_units r stream (data_length / in_block r) same all_units

  -- Every input block has the output's block size.
  pub block_size_lem : (i : ℕ) → i < data_length / in_block r → length (input_block r stream i) ≡ out_block r
  block_size_lem i h = block_length r stream (data_length / in_block r) same all_units i h ∙ sym same

  -- Every output unit has the output's unit size.
  pub unit_size_lem : (i : ℕ) → i < 0 + data_length / in_block r → length (unit_out r stream i) ≡ out_unit r
  unit_size_lem i h =
      length-append (input_block r stream i) (field_after r stream i (input_block r stream i))
      ∙ omega (arith, block_size_lem i (omega arith), field_length r stream i (input_block r stream i))

  -- The output stream is as long as the output domain's stream.
  output_length : length (output_of r stream data_length) ≡ stream_length r.output data_length
  output_length =
      ap length output_units ∙ joined_length (unit_out r stream) (out_unit r) 0 (data_length / in_block r) unit_size_lem
      ∙ ap (λ (m : ℕ). data_length / m * out_unit r) (sym same) ∙ sym (stream_units r.output r.input data_length (agree_back g))

module _ (k : Key) (memory wire : List ℕ) (offset data_length : ℕ) where
  -- A refused send changes nothing.
  pub refused_send : RefusedSend k memory wire offset data_length
  unfolding send_result wire_after_send
  refused_send r e = rw e (refl, refl)

  -- A refused receive changes nothing.
  pub refused_receive : RefusedReceive k memory wire offset data_length
  unfolding receive_result memory_after_receive
  refused_receive r e = rw e (refl, refl)

  module _ (c : CameFromCalls k) (e : answer_of k memory wire offset data_length ≡ Ok tt) where
    -- The facts of `Accepted` hold for an accepted transfer.
    pub told : Accepted k (length memory) offset data_length (length wire)
    told = accept k (length memory) offset data_length (length wire) (came_valid k c) e

    -- The memory stream is as long as the memory domain's stream.
    pub memory_length : length (memory_stream k memory offset data_length) ≡ stream_length k.signature.memory data_length
    memory_length =
        length-gathered memory _ ∙ length-take-le (stream_length k.signature.memory data_length) (drop offset (places k.layout))
        (rw (length-drop offset (places k.layout), length-places k.layout) (omega (arith, told.admitted.inside)))

    -- The wire stream is as long as the wire domain's stream.
    pub wire-length : length (wire_stream k wire data_length) ≡ stream_length k.signature.wire data_length
    wire-length = length-take-le (stream_length k.signature.wire data_length) wire told.wire

    -- The wire after an accepted send is the output, and after it the bytes that were there.
    sent : wire_after_send k memory wire offset data_length ≡ send_output k memory offset data_length ++ drop (stream_length k.signature.wire data_length) wire
    unfolding wire_after_send
    sent = rw e

    -- Memory after an accepted receive has the output stored at the layout's places.
    received : memory_after_receive k memory wire offset data_length ≡ scattered memory (drop offset (places k.layout)) (receive_output k wire data_length)
    unfolding memory_after_receive
    received = rw e

    -- The layout has a place for every byte of the memory stream.
    room : offset + stream_length k.signature.memory data_length ≤ length (places k.layout)
    room = omega (arith, told.admitted.inside, length-places k.layout)

  -- An accepted send stores its output in the wire's first bytes, and changes no other byte.
  pub send_fills : SendFills k memory wire offset data_length
  send_fills c e =
      let out = send_output k memory offset data_length in
      let n = stream_length k.signature.wire data_length in
      let l = output_length (send_rule k.signature) data_length (told c e).agree (memory_stream k memory offset data_length) (memory_length c e) in
      record {
        output = l;
        size = ap length (sent c e) ∙ length-append out (drop n wire) ∙ omega (arith, l, length-drop n wire, (told c e).wire);
        inside = λ j h. rw (sent c e) (get_or-append out (drop n wire) 0 j (omega (arith, l)));
        outside = λ j h.
            let m : length out + (j - n) ≡ j = omega (arith, l) in
            let m' : n + (j - n) ≡ j = omega arith in
            rw (sent c e) (ap (λ (i : ℕ). get_or (out ++ drop n wire) i 0) (sym m) ∙ get_or-append-add out (drop n wire) (j - n) 0 ∙ get_or-drop n wire (j - n) 0 ∙ ap (λ (i : ℕ). get_or wire i 0) m');
      }

  -- An accepted receive stores its output at the layout's places, and changes no other byte.
  pub receive_fills : ReceiveFills k memory wire offset data_length
  receive_fills c e =
      let out = receive_output k wire data_length in
      let ps = places k.layout in
      let l = output_length (receive_rule k.signature) data_length (agree_back (told c e).agree) (wire_stream k wire data_length) (wire-length c e) in
      let a = (told c e).admitted in
      record {
        output = l;
        size = ap length (received c e) ∙ length-scattered memory (drop offset ps) out;
        inside = λ j h.
            rw (received c e, ← get_or-drop offset ps j 0)
            (scattered_at memory (drop offset ps) out j (distinct_drop offset ps (sound_distinct k.layout k.memory_length (configure_done _ _ (c.accepted a.configured)).sound)) (below_drop (length memory) offset ps (within_below (length memory) (pieces k.layout) a.placed.within))
            (omega (arith, l)) (omega (arith, length-drop offset ps, room c e)));
        outside = λ p o. rw (received c e) (scattered_other memory (drop offset ps) out p (λ i h h' q. o i (omega (arith, l)) (sym (get_or-drop offset ps i 0) ∙ q)));
      }
