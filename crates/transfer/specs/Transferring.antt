-- Send and receive for all input (01, "The transfer rule" and "Numbered answers"): what each returns, and every byte of
-- memory and wire after it.
--
--   memory_stream k memory offset data_length     the memory stream of a transfer
--   wire_stream k wire data_length                the wire stream of a transfer
--   TransferResult, totals_of t                  what a transfer returns; its totals, or its refusal
--   transfer_result_by outcome k taken written error    what a transfer returns for an outcome
--   becomes outcome before after                what becomes of lent bytes
--   answer_of k memory wire offset data_length    the answer of a transfer on these lent bytes
--   send_result, wire_after_send                   what send returns; the wire after it
--   receive_result, memory_after_receive           what receive returns; memory after it
use Rattle.std.specs.Prelude.{Result, List, ◌++◌, ℕ, zero, length, take, drop, Ok, Err}
use Rattle.layout.specs.Pieces.{places}
use Rattle.layout.specs.Moves.{gathered, scattered}
use Rattle.slot.specs.Slots.{Slot, keep}
use Rattle.key.specs.declared.Key.{Key}
use Rattle.key.specs.declared.refusal.Refusal.{Refusal}
use Rattle.key.specs.Numbers.{Outcome}
use Rattle.key.specs.Keys.{with_slot}
use Rattle.key.specs.Streams.{stream_length}
use Rattle.key.specs.Admitting.{transfer_answer}
use Rattle.transfer.specs.declared.Totals.{Totals}
use Rattle.transfer.specs.Rules.{send_rule, receive_rule, output_of, error_in}

-- The memory stream of a transfer: layout bytes from the offset on.
abbrev pub memory_stream : (k : Key) (memory : List ℕ) (offset data_length : ℕ) → List ℕ
memory_stream k memory offset data_length =
    gathered memory (take (stream_length k.signature.memory data_length) (drop offset (places k.layout)))

-- The wire stream: the wire buffer's first bytes.
abbrev pub wire_stream : (k : Key) (wire : List ℕ) (data_length : ℕ) → List ℕ
wire_stream k wire data_length = take (stream_length k.signature.wire data_length) wire

-- What a transfer returns: its outcome, the bytes taken and written, and the key after it.
pub record TransferResult : Type 0 where
  pub outcome : Outcome
  pub taken : ℕ
  pub written : ℕ
  pub key : Key

-- Its totals, or its refusal.
abbrev pub totals_by : (outcome : Outcome) (taken written : ℕ) → Result Totals Refusal
totals_by (Ok tt) taken written = Ok (record { taken = taken; written = written })
totals_by (Err r) taken written = Err r

abbrev pub totals_of : (t : TransferResult) → Result Totals Refusal
totals_of t = totals_by t.outcome t.taken t.written

-- What a transfer returns for an outcome: done, with the bytes taken and written and the first error in the key's slot;
-- or refused, with two zeros and the key as it was.
abbrev pub transfer_result_by : (outcome : Outcome) (k : Key) (taken written : ℕ) (error : Slot) → TransferResult
transfer_result_by (Ok tt) k taken written error =
    record { outcome = Ok tt; taken = taken; written = written; key = with_slot k (keep k.slot error) }
transfer_result_by (Err r) k taken written error =
    record { outcome = Err r; taken = zero; written = zero; key = k }

-- What becomes of lent bytes: a refused call leaves them.
abbrev pub becomes : (outcome : Outcome) (before after : List ℕ) → List ℕ
becomes (Ok tt) before after = after
becomes (Err r) before after = before

-- The answer of a transfer on these lent bytes.
abbrev pub answer_of : (k : Key) (memory wire : List ℕ) (offset data_length : ℕ) → Outcome
answer_of k memory wire offset data_length = transfer_answer k (length memory) offset data_length (length wire)

-- ---- send

-- What send returns.
unfoldable pub send_result : (k : Key) (memory wire : List ℕ) (offset data_length : ℕ) → TransferResult
send_result k memory wire offset data_length =
    transfer_result_by (answer_of k memory wire offset data_length) k
    (stream_length k.signature.memory data_length) (stream_length k.signature.wire data_length)
    (error_in (send_rule k.signature) (memory_stream k memory offset data_length) data_length)

-- The wire after a send: the output stream, and after it the bytes that were there.
unfoldable pub wire_after_send : (k : Key) (memory wire : List ℕ) (offset data_length : ℕ) → List ℕ
wire_after_send k memory wire offset data_length =
    becomes (answer_of k memory wire offset data_length) wire
    (output_of (send_rule k.signature) (memory_stream k memory offset data_length) data_length
    ++ drop (stream_length k.signature.wire data_length) wire)

-- ---- receive

-- What receive returns.
unfoldable pub receive_result : (k : Key) (memory wire : List ℕ) (offset data_length : ℕ) → TransferResult
receive_result k memory wire offset data_length =
    transfer_result_by (answer_of k memory wire offset data_length) k
    (stream_length k.signature.wire data_length) (stream_length k.signature.memory data_length)
    (error_in (receive_rule k.signature) (wire_stream k wire data_length) data_length)

-- Memory after a receive: the output stream stored at the layout's places from the offset on.
unfoldable pub memory_after_receive : (k : Key) (memory wire : List ℕ) (offset data_length : ℕ) → List ℕ
memory_after_receive k memory wire offset data_length =
    becomes (answer_of k memory wire offset data_length) memory
    (scattered memory (drop offset (places k.layout))
    (output_of (receive_rule k.signature) (wire_stream k wire data_length) data_length))
