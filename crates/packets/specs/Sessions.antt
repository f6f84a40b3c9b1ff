-- Open, packet, finish and abandon for all input, as functions of a session (01, "Packets" and "Numbered answers").
--
--   opened_session k offset data_length           the session of an accepted open
--   open_result k memory_length offset data_length what open returns
--   with_progress s p                            the session with another progress
--   session_after k offset data_length came       the session after some bytes
--   rule_of s, taken_by s, wire_length s           a session's rule, bytes so far, bytes of the whole transfer
--   recorded s, ended_key s                      the recorded error; the key with it
--   SessionFromCalls s                          the session came from these calls: 01's one premise
--   SessionValid s, session_valid s              the precondition of the calls, and its test
--   packet_answer s memory_length n               packet's answer: 8, 12, or Ok
--   packet_result_by, packet_result s memory_length bytes    what packet returns, for an outcome and for all input
--   memory_after_packet s memory bytes            memory after it
--   finish_answer s                              finish's answer: 13, or Ok
--   finish_result_by, finish_result s, abandon_result s      what finish and abandon return
use Rattle.std.specs.Prelude.{◌≡◌, Result, Bool, ◌&&◌, not, List, ℕ, zero, ◌+◌, ◌≤◌, ◌<◌, eqb, ltb, leb, length, drop, None, Ok, Err}
use Rattle.guard.specs.Guards.{Bytes}
use Rattle.layout.specs.declared.offset.LayoutOffset.{LayoutOffset}
use Rattle.layout.specs.Pieces.{places}
use Rattle.layout.specs.Moves.{scattered}
use Rattle.slot.specs.Slots.{Slot, keep}
use Rattle.key.specs.declared.Key.{Key}
use Rattle.key.specs.declared.refusal.Refusal.{Refusal}
use Rattle.key.specs.Numbers.{Outcome, refuse}
use Rattle.key.specs.declared.refusal.Refusal.TheVariants.{MemoryLength, LongPacket, BytesToCome}
use Rattle.key.specs.Keys.{with_slot, accepts, CameFromCalls, KeyValid}
use Rattle.key.specs.Streams.{stream_length}
use Rattle.key.specs.Admitting.{open_answer}
use Rattle.engine.specs.declared.Rule.{Rule}
use Rattle.engine.specs.declared.Progress.{Progress}
use Rattle.engine.specs.Streams.{in_unit}
use Rattle.engine.specs.Feeding.{begun, fed, emitted}
use Rattle.engine.specs.Positions.{Aligned, in_step, taken, written}
use Rattle.transfer.specs.Rules.{receive_rule}
use Rattle.transfer.specs.declared.Totals.{Totals}
use Rattle.transfer.specs.Transferring.{totals_by, becomes}
use Rattle.packets.specs.declared.Session.{Session}

-- ---- open

-- The session of an accepted open.
abbrev pub opened_session : (k : Key) (offset : LayoutOffset) (data_length : ℕ) → Session
opened_session k offset data_length = record {
  key = k;
  offset = offset;
  data_length = data_length;
  progress = begun (receive_rule k.signature) None;
}

-- How an open ends: its outcome, the key after it, and the session.
pub record OpenResult : Type 0 where
  pub outcome : Outcome
  pub key : Key
  pub session : Session

-- What open returns on a memory of this length. What 01 leaves free: the key of an accepted open is the one given, and
-- the session of a refused one counts for nothing.
abbrev pub open_result : (k : Key) (memory_length : ℕ) (offset : LayoutOffset) (data_length : ℕ) → OpenResult
open_result k memory_length offset data_length = record {
  outcome = open_answer k memory_length offset.0 data_length;
  key = k;
  session = opened_session k offset data_length;
}

-- The session, or the refusal.
abbrev pub session_by : (outcome : Outcome) (s : Session) → Result Session Refusal
session_by (Ok tt) s = Ok s
session_by (Err r) s = Err r

abbrev pub session_of : (answer : OpenResult) → Result Session Refusal
session_of answer = session_by answer.outcome answer.session

-- The session with another progress.
abbrev pub with_progress : (s : Session) (p : Progress) → Session
with_progress s p = record { key = s.key; offset = s.offset; data_length = s.data_length; progress = p }

-- The session after the bytes `came` since an accepted open: how far feeding them has got.
abbrev pub session_after : (k : Key) (offset : LayoutOffset) (data_length : ℕ) (came : List ℕ) → Session
session_after k offset data_length came =
    let r = receive_rule k.signature in
    with_progress (opened_session k offset data_length) (fed r (begun r None) came)

-- ---- what a session says

-- The rule of the transfer.
abbrev pub rule_of : (s : Session) → Rule
rule_of s = receive_rule s.key.signature

-- The number of wire bytes accepted so far.
abbrev pub taken_by : (s : Session) → ℕ
taken_by s = taken (rule_of s) s.progress

-- The number of wire bytes of the whole transfer.
abbrev pub wire_length : (s : Session) → ℕ
wire_length s = stream_length s.key.signature.wire s.data_length

-- The recorded error: the key's, if its slot was not empty at open, else the first of the whole units.
abbrev pub recorded : (s : Session) → Slot
recorded s = keep s.key.slot s.progress.slot

-- The key given to open with the recorded error in its slot.
abbrev pub ended_key : (s : Session) → Key
ended_key s = with_slot s.key (recorded s)

-- What every session from these calls is: what feeding some bytes gives, from an accepted open of a key from these
-- calls.
pub record SessionFromCalls (s : Session) : Type 0 where
  pub key : CameFromCalls s.key
  pub opened : open_answer s.key s.key.memory_length s.offset.0 s.data_length ≡ Ok tt
  pub came : List ℕ
  pub bytes : Bytes came
  pub fits : length came ≤ wire_length s
  pub progress : s.progress ≡ fed (rule_of s) (begun (rule_of s) None) came

-- The precondition of packet, finish and abandon: an accepted open of a valid key, both sides aligned in a unit that is
-- not whole, and no more bytes than its wire has. Every session from these calls meets it (`proofs/PacketLaws`,
-- `came_session_valid`).
pub record SessionValid (s : Session) : Type 0 where
  pub key : KeyValid s.key
  pub opened : open_answer s.key s.key.memory_length s.offset.0 s.data_length ≡ Ok tt
  pub aligned : Aligned (rule_of s) s.progress
  pub begun : s.progress.input.at < in_unit (rule_of s)
  pub fits : taken_by s ≤ wire_length s

-- The same as a test of an untrusted session whose key is valid.
unfoldable pub session_valid : (s : Session) → Bool
session_valid s =
    accepts (open_answer s.key s.key.memory_length s.offset.0 s.data_length) &&
    (in_step (rule_of s) s.progress && leb (taken_by s) (wire_length s))

-- ---- packet

-- Packet's answer: 8, then 12 if the n bytes are more than the wire bytes still to come.
unfoldable pub packet_answer : (s : Session) (memory_length n : ℕ) → Outcome
packet_answer s memory_length n =
    refuse (not (eqb memory_length s.key.memory_length)) MemoryLength
    (refuse (ltb (wire_length s) (taken_by s + n)) LongPacket (Ok tt))

-- How a packet ends: its outcome, the totals since open, and the session after it.
pub record PacketResult : Type 0 where
  pub outcome : Outcome
  pub taken : ℕ
  pub written : ℕ
  pub session : Session

-- The totals, or the refusal.
abbrev pub packet_totals : (answer : PacketResult) → Result Totals Refusal
packet_totals answer = totals_by answer.outcome answer.taken answer.written

-- What packet returns for an outcome: the totals since open. A refused packet returns two zeros and the session as it
-- was.
abbrev pub packet_result_by : (outcome : Outcome) (s : Session) (p : Progress) → PacketResult
packet_result_by (Ok tt) s p = record {
  outcome = Ok tt;
  taken = taken (rule_of s) p;
  written = written (rule_of s) p;
  session = with_progress s p;
}
packet_result_by (Err r) s p = record { outcome = Err r; taken = zero; written = zero; session = s }

-- What packet returns.
unfoldable pub packet_result : (s : Session) (memory_length : ℕ) (bytes : List ℕ) → PacketResult
packet_result s memory_length bytes =
    packet_result_by (packet_answer s memory_length (length bytes)) s (fed (rule_of s) s.progress bytes)

-- The lent memory after a packet.
unfoldable pub memory_after_packet : (s : Session) (memory bytes : List ℕ) → List ℕ
memory_after_packet s memory bytes =
    becomes (packet_answer s (length memory) (length bytes)) memory
    (scattered memory (drop (s.offset.0 + written (rule_of s) s.progress) (places s.key.layout))
    (emitted (rule_of s) s.progress bytes))

-- ---- finish and abandon

-- Finish's answer: 13 while wire bytes are to come.
unfoldable pub finish_answer : (s : Session) → Outcome
finish_answer s = refuse (ltb (taken_by s) (wire_length s)) BytesToCome (Ok tt)

-- How a finish ends: its outcome, the key, and the session after it.
pub record FinishResult : Type 0 where
  pub outcome : Outcome
  pub key : Key
  pub session : Session

-- The key, or the refusal.
abbrev pub key_by : (outcome : Outcome) (k : Key) → Result Key Refusal
key_by (Ok tt) k = Ok k
key_by (Err r) k = Err r

abbrev pub key_of : (answer : FinishResult) → Result Key Refusal
key_of answer = key_by answer.outcome answer.key

-- How an abandon ends: its outcome, which is always Ok, and the key.
pub record AbandonResult : Type 0 where
  pub outcome : Outcome
  pub key : Key

-- What finish returns for an outcome. What 01 leaves free: the key of an early finish is the one given to open, and the
-- session of an accepted one counts for nothing.
abbrev pub finish_result_by : (outcome : Outcome) (s : Session) → FinishResult
finish_result_by (Ok tt) s = record { outcome = Ok tt; key = ended_key s; session = s }
finish_result_by (Err r) s = record { outcome = Err r; key = s.key; session = s }

-- What finish returns.
abbrev pub finish_result : (s : Session) → FinishResult
finish_result s = finish_result_by (finish_answer s) s

-- What abandon returns: the key with the recorded error.
abbrev pub abandon_result : (s : Session) → AbandonResult
abandon_result s = record { outcome = Ok tt; key = ended_key s }
