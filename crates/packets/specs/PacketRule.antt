-- 01's packet rule, said by the transfer rule alone: what memory and recorded error are after some wire bytes, and what
-- a list of calls returns.
--
--   shown_after r n                     how many output bytes memory holds after n wire bytes
--   Call                               one call of a list, with what it returned
-- For a transfer (key, memory at open, offset, data length):
--   rule, wire                         its rule, and the length of its wire stream
--   memory_after, error_after            memory and recorded error after some bytes
--   Stands came now found              the bytes fit, and memory and error are so, whatever the bytes still to come
--   packet_rule, finish_rule             01's answers for a packet and for finish
--   session_after_bytes came             the session after some bytes
--   HandedBack came given returned     a refused call hands back the session that it was given
--   Accepted, Kept, Early, Ended       what each kind of call returns
--   Follows came now s calls           the list, made on session s, follows the packet rule
use Rattle.std.specs.Prelude.{◌≡◌, not, List, [], ◌∷◌, ◌++◌, ℕ, ◌+◌, ◌*◌, ◌/◌, ◌%◌, ◌≤◌, min, eqb, ltb, length, take, drop, Ok, Err}
use Rattle.guard.specs.Guards.{Bytes}
use Rattle.layout.specs.Pieces.{places}
use Rattle.layout.specs.Moves.{scattered}
use Rattle.slot.specs.Slots.{Slot, keep}
use Rattle.key.specs.declared.Key.{Key}
use Rattle.key.specs.Numbers.{Outcome, refuse}
use Rattle.key.specs.declared.refusal.Refusal.{Refusal}
use Rattle.key.specs.declared.refusal.Refusal.TheVariants.{MemoryLength, LongPacket, BytesToCome}
use Rattle.key.specs.Keys.{with_slot, CameFromCalls}
use Rattle.key.specs.Streams.{stream_length}
use Rattle.engine.specs.declared.Rule.{Rule}
use Rattle.engine.specs.Streams.{in_block, in_unit, out_unit}
use Rattle.engine.specs.Transfers.{first_error}
use Rattle.transfer.specs.Rules.{receive_rule, output_of}
use Rattle.transfer.specs.Transferring.{receive_result, memory_after_receive}
use Rattle.packets.specs.declared.Session.{Session}
use Rattle.packets.specs.Sessions.{PacketResult, FinishResult, AbandonResult, session_after, recorded, SessionFromCalls}

-- 01: with q whole units and r bytes over, memory holds the first q × (output unit) + min(r, block size) output bytes.
abbrev pub shown_after : (r : Rule) (n : ℕ) → ℕ
shown_after r n = n / in_unit r * out_unit r + min (n % in_unit r) (in_block r)

-- One call of the list, with what it returned. A packet is lent a memory; the last list is that memory after the call.
pub data Call : Type 0 where
  packet : (lent bytes : List ℕ) → PacketResult → (after : List ℕ) → Call
  finish : FinishResult → Call
  abandon : AbandonResult → Call

-- The transfer: the key, memory as it was at open, the layout offset where it begins, and its data length.
module _ (k : Key) (at_open : List ℕ) (offset data_length : ℕ) where
  -- The wire is the input, memory the output.
  abbrev pub rule : Rule
  rule = receive_rule k.signature

  -- The wire stream's length.
  abbrev pub wire : ℕ
  wire = stream_length k.signature.wire data_length

  -- Memory after the bytes `came`, with `rest` still to come.
  abbrev pub memory_after : (came rest : List ℕ) → List ℕ
  memory_after came rest =
      scattered at_open (drop offset (places k.layout))
      (take (shown_after rule (length came)) (output_of rule (came ++ rest) data_length))

  -- The recorded error: that of the whole units, if the key's slot was empty at open, else the old one.
  abbrev pub error_after : (came rest : List ℕ) → Slot
  error_after came rest = keep k.slot (first_error rule (came ++ rest) (length came / in_unit rule))

  -- What holds after the bytes `came`. No more came than the wire has, so there are bytes `rest` that make it whole;
  -- whatever these are, memory and recorded error are the rule's. Once all bytes have come, one receive of them is
  -- accepted, and memory and recorded error are those that it leaves.
  pub record Stands (came now : List ℕ) (found : Slot) : Type 0 where
    pub fits : length came ≤ wire
    pub memory : (rest : List ℕ) → Bytes rest → length (came ++ rest) ≡ wire → now ≡ memory_after came rest
    pub error : (rest : List ℕ) → Bytes rest → length (came ++ rest) ≡ wire → found ≡ error_after came rest
    pub whole :
        length came ≡ wire
        → ((receive_result k at_open came offset data_length).outcome ≡ Ok tt)
        × (now ≡ memory_after_receive k at_open came offset data_length)
        × (with_slot k found ≡ (receive_result k at_open came offset data_length).key)

  -- 01's answer for a packet of n bytes after the bytes `came`, lent a memory of this length: 8, then 12.
  abbrev pub packet_rule : (came : List ℕ) (lent n : ℕ) → Outcome
  packet_rule came lent n =
      refuse (not (eqb lent k.memory_length)) MemoryLength
      (refuse (ltb wire (length came + n)) LongPacket (Ok tt))

  -- 01's answer for finish: 13 while wire bytes are to come.
  abbrev pub finish_rule : (came : List ℕ) → Outcome
  finish_rule came = refuse (ltb (length came) wire) BytesToCome (Ok tt)

  -- The session of this transfer after the bytes `came`.
  abbrev pub session_after_bytes : (came : List ℕ) → Session
  session_after_bytes came = session_after k (record { 0 = offset }) data_length came

  -- An accepted packet returns the session after all bytes so far, and the totals since open, which are those of one
  -- receive once all bytes have come.
  pub record Accepted (came : List ℕ) (answer : PacketResult) (after : List ℕ) : Type 0 where
    pub outcome : answer.outcome ≡ Ok tt
    pub taken : answer.taken ≡ length came
    pub written : answer.written ≡ shown_after rule (length came)
    pub stands : Stands came after (recorded answer.session)
    pub session : answer.session ≡ session_after_bytes came
    pub calls : SessionFromCalls answer.session
    pub whole :
        length came ≡ wire
        → (answer.taken ≡ (receive_result k at_open came offset data_length).taken)
        × (answer.written ≡ (receive_result k at_open came offset data_length).written)

  -- A refused call hands back the session that it was given, which is the one after the bytes so far.
  pub record HandedBack (came : List ℕ) (given returned : Session) : Type 0 where
    pub same : returned ≡ given
    pub session : returned ≡ session_after_bytes came
    pub calls : SessionFromCalls returned

  -- A refused packet returns its number and two zeros, and nothing changes.
  pub record Kept (came now : List ℕ) (s : Session) (r : Refusal) (lent : List ℕ) (answer : PacketResult)
      (after : List ℕ) : Type 0 where
    pub outcome : answer.outcome ≡ Err r
    pub taken : answer.taken ≡ 0
    pub written : answer.written ≡ 0
    pub untouched : after ≡ lent
    pub stands : Stands came now (recorded answer.session)
    pub back : HandedBack came s answer.session

  -- An early finish returns its number, and nothing changes.
  pub record Early (came now : List ℕ) (s : Session) (r : Refusal) (answer : FinishResult) : Type 0 where
    pub outcome : answer.outcome ≡ Err r
    pub stands : Stands came now (recorded answer.session)
    pub back : HandedBack came s answer.session

  -- The key that finish or abandon returns: the one given to open with the recorded error in its slot.
  pub record Ended (came now : List ℕ) (outcome : Outcome) (returned : Key) : Type 0 where
    pub done : outcome ≡ Ok tt
    pub key : returned ≡ with_slot k returned.slot
    pub stands : Stands came now returned.slot
    pub calls : CameFromCalls returned

  -- The list follows the packet rule, from the bytes that came before it, memory as it is, and the session that the
  -- call before returned: one constructor for each way that 01 gives for a call. At each point no more bytes have come
  -- than the wire has (`Stands`, `none`), and all of them where a finish is accepted.
  pub data Follows : List ℕ → List ℕ → Session → List Call → Type 0 where
    none : {came now : List ℕ} {s : Session} → length came ≤ wire → Follows came now s []
    accepted : {came now lent bytes after : List ℕ} {s : Session} {answer : PacketResult} {calls : List Call}
        → packet_rule came (length lent) (length bytes) ≡ Ok tt
        → Accepted (came ++ bytes) answer after
        → Follows (came ++ bytes) after answer.session calls
        → Follows came now s (packet lent bytes answer after ∷ calls)
    refused : {came now lent bytes after : List ℕ} {s : Session} {answer : PacketResult} {calls : List Call}
        (r : Refusal)
        → packet_rule came (length lent) (length bytes) ≡ Err r
        → Kept came now s r lent answer after
        → Follows came now answer.session calls
        → Follows came now s (packet lent bytes answer after ∷ calls)
    early : {came now : List ℕ} {s : Session} {answer : FinishResult} {calls : List Call} (r : Refusal)
        → finish_rule came ≡ Err r
        → Early came now s r answer
        → Follows came now answer.session calls
        → Follows came now s (finish answer ∷ calls)
    finished : {came now : List ℕ} {s : Session} {answer : FinishResult}
        → finish_rule came ≡ Ok tt
        → length came ≡ wire
        → Ended came now answer.outcome answer.key
        → Follows came now s (finish answer ∷ [])
    abandoned : {came now : List ℕ} {s : Session} {answer : AbandonResult}
        → Ended came now answer.outcome answer.key
        → Follows came now s (abandon answer ∷ [])
