-- Demand 3 for C: any list of packet, finish and abandon calls on C structs, from an accepted open.
--
--   CCall                            one call of a list, with what it returned
--   CMade c now calls                the list can be made from session c with memory now
--   to_c call                         a call of the crates below, with its result as a C struct
--   CFollows k memory offset data_length calls    the list follows 01's packet rule
--   CDemand3                         the statement
--   CEveryListIsMade                 the lists that it speaks of can be made
use Rattle.std.specs.Prelude.{◌≡◌, List, [], ◌∷◌, map, ℕ, length}
use Rattle.guard.specs.Guards.{Bytes}
use Rattle.key.specs.declared.Key.{Key}
use Rattle.key.specs.Keys.{CameFromCalls}
use Rattle.packets.specs.declared.Session.{Session}
use Rattle.packets.specs.Sessions.{opened_session, SessionFromCalls}
use Rattle.packets.specs.PacketRule.{Call, Follows}
use Rattle.packets.specs.Lists.{Request, played, AllBytes}
use Rattle.cstructs.specs.declared.CSession.{CSession}
use Rattle.cstructs.specs.CStructs.{key_to_c, session_to_c}
use Rattle.capi.specs.declared.CPacketResult.{CPacketResult}
use Rattle.capi.specs.declared.CFinishResult.{CFinishResult}
use Rattle.capi.specs.declared.CAbandonResult.{CAbandonResult}
use Rattle.capi.specs.Calls.{packet_result_to_c, finish_result_to_c, abandon_result_to_c}
use Rattle.capi.specs.Calls.{c_open, c_packet, memory_after_c_packet, c_finish, c_abandon}
use Rattle.audit.specs.CCalls.{Refuses}

-- One call of the list, with what it returned. A packet is lent a memory; the last list is that memory after the call.
pub data CCall : Type 0 where
  packet : (lent bytes : List ℕ) → CPacketResult → (after : List ℕ) → CCall
  finish : CFinishResult → CCall
  abandon : CAbandonResult → CCall

-- The list as it is made: each call on the session that the call before returned. An accepted packet was lent the
-- transfer's memory as it is, a refused one any memory. An accepted finish or an abandon ends the list, and the list
-- may also stop before.
pub data CMade : CSession → List ℕ → List CCall → Type 0 where
  stops : {c : CSession} {now : List ℕ} → CMade c now []
  accepted : {c : CSession} {now : List ℕ} (bytes : List ℕ) (answer : CPacketResult) (after : List ℕ)
      {calls : List CCall}
      → Bytes bytes
      → answer ≡ c_packet c (length now) bytes
      → after ≡ memory_after_c_packet c now bytes
      → answer.answer ≡ 0
      → CMade answer.session after calls
      → CMade c now (CCall.packet now bytes answer after ∷ calls)
  refused : {c : CSession} {now : List ℕ} (lent bytes : List ℕ) (answer : CPacketResult) (after : List ℕ)
      {calls : List CCall}
      → answer ≡ c_packet c (length lent) bytes
      → after ≡ memory_after_c_packet c lent bytes
      → Refuses answer.answer → CMade answer.session now calls
      → CMade c now (CCall.packet lent bytes answer after ∷ calls)
  early : {c : CSession} {now : List ℕ} (answer : CFinishResult) {calls : List CCall}
      → answer ≡ c_finish c
      → Refuses answer.answer
      → CMade answer.session now calls
      → CMade c now (CCall.finish answer ∷ calls)
  finished : {c : CSession} {now : List ℕ} (answer : CFinishResult)
      → answer ≡ c_finish c
      → answer.answer ≡ 0
      → CMade c now (CCall.finish answer ∷ [])
  abandoned : {c : CSession} {now : List ℕ} (answer : CAbandonResult)
      → answer ≡ c_abandon c
      → CMade c now (CCall.abandon answer ∷ [])

-- A call of the crates below, with its result as a C struct.
unfoldable pub to_c : (call : Call) → CCall
to_c (Call.packet lent bytes answer after) = CCall.packet lent bytes (packet_result_to_c answer) after
to_c (Call.finish answer) = CCall.finish (finish_result_to_c answer)
to_c (Call.abandon answer) = CCall.abandon (abandon_result_to_c answer)

-- The list is that of calls below which follow 01's packet rule.
pub record CFollows (k : Key) (memory : List ℕ) (offset data_length : ℕ) (calls : List CCall) : Type 0 where
  pub below : List Call
  pub same : calls ≡ map to_c below
  pub follows : Follows k memory offset data_length [] memory (opened_session k (record { 0 = offset }) data_length) below

-- Demand 3 for C.
abbrev pub CDemand3 : Type 0
CDemand3 =
    (k : Key) (memory : List ℕ) (offset data_length : ℕ)
    → CameFromCalls k
    → let o = c_open (key_to_c k) (length memory) offset data_length in o.answer ≡ 0
    → (calls : List CCall)
    → CMade o.session memory calls
    → CFollows k memory offset data_length calls

-- Every list of requests, on a session that came from the calls, leads to a list of C calls that can be made. A packet
-- that would be accepted is lent the transfer's memory (see `played`).
abbrev pub CEveryListIsMade : Type 0
CEveryListIsMade =
    (s : Session) → SessionFromCalls s → (now : List ℕ) (requests : List Request) → AllBytes requests
    → CMade (session_to_c s) now (map to_c (played s now requests))
