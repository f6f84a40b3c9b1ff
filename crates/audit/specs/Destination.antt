-- Demand 2, bytes: "an accepted transfer in either direction puts in its destination exactly the bytes of 01's transfer
-- rule .. and touches no byte outside it." And demand 1: a refused call leaves key, memory and wire buffer untouched.
-- (Send is lent its memory, and receive its wire, to be read only.)
--
--   send_output, receive_output        the rule's output bytes
--   place_of k offset j               the memory offset of byte j of the memory stream
--   refused_with k r                  what a refused transfer returns
-- For a key, lent bytes, offset and data length:
--   WireHolds, MemoryHolds           every byte after a send, after a receive
--   SendFills, ReceiveFills          so it is after an accepted transfer
--   RefusedSend, RefusedReceive      a refused transfer changes nothing
use Rattle.std.specs.Prelude.{◌≡◌, List, ℕ, ◌+◌, ◌≤◌, ◌<◌, length, get_or, Ok, Err}
use Rattle.layout.specs.Pieces.{places}
use Rattle.key.specs.declared.Key.{Key}
use Rattle.key.specs.declared.refusal.Refusal.{Refusal}
use Rattle.key.specs.Keys.{CameFromCalls}
use Rattle.key.specs.Streams.{stream_length}
use Rattle.transfer.specs.Transferring.{TransferResult, memory_stream, wire_stream, answer_of, send_result, wire_after_send, receive_result, memory_after_receive}
use Rattle.transfer.specs.Rules.{send_rule, receive_rule, output_of}

-- The rule's output bytes of a send.
abbrev pub send_output : (k : Key) (memory : List ℕ) (offset data_length : ℕ) → List ℕ
send_output k memory offset data_length =
    output_of (send_rule k.signature) (memory_stream k memory offset data_length) data_length

-- The rule's output bytes of a receive.
abbrev pub receive_output : (k : Key) (wire : List ℕ) (data_length : ℕ) → List ℕ
receive_output k wire data_length = output_of (receive_rule k.signature) (wire_stream k wire data_length) data_length

-- The memory offset of byte j of the memory stream that begins at this layout offset.
abbrev pub place_of : (k : Key) (offset j : ℕ) → ℕ
place_of k offset j = get_or (places k.layout) (offset + j) 0

-- What a refused transfer returns: its number, two zeros, and the key as it was.
abbrev pub refused_with : (k : Key) (r : Refusal) → TransferResult
refused_with k r = record { outcome = Err r; taken = 0; written = 0; key = k }

module _ (k : Key) (memory wire : List ℕ) (offset data_length : ℕ) where
  -- The wire after a send: the output bytes, as many as the wire stream has, and after them those that were there.
  pub record WireHolds : Type 0 where
    pub output : length (send_output k memory offset data_length) ≡ stream_length k.signature.wire data_length
    pub size : length (wire_after_send k memory wire offset data_length) ≡ length wire
    pub inside :
        (j : ℕ) → j < stream_length k.signature.wire data_length
        → get_or (wire_after_send k memory wire offset data_length) j 0 ≡ get_or (send_output k memory offset data_length) j 0
    pub outside :
        (j : ℕ) → stream_length k.signature.wire data_length ≤ j
        → get_or (wire_after_send k memory wire offset data_length) j 0 ≡ get_or wire j 0

  -- Memory after a receive: an output byte at each place of the memory stream, and elsewhere the byte that was there.
  pub record MemoryHolds : Type 0 where
    pub output : length (receive_output k wire data_length) ≡ stream_length k.signature.memory data_length
    pub size : length (memory_after_receive k memory wire offset data_length) ≡ length memory
    pub inside :
        (j : ℕ) → j < stream_length k.signature.memory data_length
        → get_or (memory_after_receive k memory wire offset data_length) (place_of k offset j) 0
        ≡ get_or (receive_output k wire data_length) j 0
    pub outside :
        (p : ℕ)
        → ((j : ℕ) → j < stream_length k.signature.memory data_length → place_of k offset j ≡ p → ⊥)
        → get_or (memory_after_receive k memory wire offset data_length) p 0 ≡ get_or memory p 0

  -- An accepted send fills the wire so.
  abbrev pub SendFills : Type 0
  SendFills = CameFromCalls k → answer_of k memory wire offset data_length ≡ Ok tt → WireHolds

  -- An accepted receive fills memory so.
  abbrev pub ReceiveFills : Type 0
  ReceiveFills = CameFromCalls k → answer_of k memory wire offset data_length ≡ Ok tt → MemoryHolds

  -- A refused send changes nothing.
  abbrev pub RefusedSend : Type 0
  RefusedSend =
      (r : Refusal) → answer_of k memory wire offset data_length ≡ Err r
      → (send_result k memory wire offset data_length ≡ refused_with k r)
      × (wire_after_send k memory wire offset data_length ≡ wire)

  -- A refused receive changes nothing.
  abbrev pub RefusedReceive : Type 0
  RefusedReceive =
      (r : Refusal) → answer_of k memory wire offset data_length ≡ Err r
      → (receive_result k memory wire offset data_length ≡ refused_with k r)
      × (memory_after_receive k memory wire offset data_length ≡ memory)
