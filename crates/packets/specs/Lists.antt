-- Lists of calls as they are made: each call meets its contract on the session that the call before returned.
--
--   Made s now calls            the list can be made from session s with memory now
--   Request, packet_of request   what a caller asks for; the bytes of its packet
--   unless_done outcome calls    the calls after a finish
--   played s now requests       the list of calls that these requests lead to
--   AllBytes requests           every packet that is asked for is bytes
--   EveryListIsMade             each list that is played can be made
--   request_of call              what a call asked for
--   EveryMadeListIsPlayed       each list that can be made is played for its own requests
use Rattle.std.specs.Prelude.{◌≡◌, List, [], ◌∷◌, map, ℕ, length, get_or, Ok, Err}
use Rattle.guard.specs.Guards.{Bytes}
use Rattle.key.specs.Numbers.{Outcome}
use Rattle.key.specs.declared.refusal.Refusal.{Refusal}
use Rattle.transfer.specs.Transferring.{becomes}
use Rattle.packets.specs.declared.Session.{Session}
use Rattle.packets.specs.Sessions.{PacketResult, FinishResult, AbandonResult, packet_answer, packet_result, memory_after_packet, finish_result, abandon_result}
use Rattle.packets.specs.PacketRule.{Call}

-- The equations are those that the functions ensure. An accepted packet was lent the transfer's memory as it is, a
-- refused one any memory. An accepted finish or an abandon ends the list, and the list may also stop before.
pub data Made : Session → List ℕ → List Call → Type 0 where
  stops : {s : Session} {now : List ℕ} → Made s now []
  accepted : {s : Session} {now : List ℕ} (bytes : List ℕ) (answer : PacketResult) (after : List ℕ) {calls : List Call}
      → Bytes bytes
      → answer ≡ packet_result s (length now) bytes
      → after ≡ memory_after_packet s now bytes
      → answer.outcome ≡ Ok tt
      → Made answer.session after calls
      → Made s now (Call.packet now bytes answer after ∷ calls)
  refused : {s : Session} {now : List ℕ} (lent bytes : List ℕ) (answer : PacketResult) (after : List ℕ) (r : Refusal)
      {calls : List Call}
      → answer ≡ packet_result s (length lent) bytes
      → after ≡ memory_after_packet s lent bytes
      → answer.outcome ≡ Err r
      → Made answer.session now calls
      → Made s now (Call.packet lent bytes answer after ∷ calls)
  early : {s : Session} {now : List ℕ} (answer : FinishResult) (r : Refusal) {calls : List Call}
      → answer ≡ finish_result s
      → answer.outcome ≡ Err r
      → Made answer.session now calls
      → Made s now (Call.finish answer ∷ calls)
  finished : {s : Session} {now : List ℕ} (answer : FinishResult)
      → answer ≡ finish_result s
      → answer.outcome ≡ Ok tt
      → Made s now (Call.finish answer ∷ [])
  abandoned : {s : Session} {now : List ℕ} (answer : AbandonResult)
      → answer ≡ abandon_result s
      → Made s now (Call.abandon answer ∷ [])

-- What a caller asks for: a packet of these bytes that is lent this memory, a finish, or an abandon.
pub data Request : Type 0 where
  packet : (lent bytes : List ℕ) → Request
  finish : Request
  abandon : Request

-- The calls after a finish: none if it was accepted.
abbrev pub unless_done : (outcome : Outcome) (calls : List Call) → List Call
unless_done (Ok tt) calls = []
unless_done (Err r) calls = calls

-- The list of calls that these requests lead to. A packet that would be accepted is lent the transfer's memory as it
-- is, since that is the caller's duty; one that would be refused is lent the memory of the request. The list ends with
-- an accepted finish or an abandon, and requests after it are dropped.
unfoldable pub played : (s : Session) (now : List ℕ) (requests : List Request) → List Call
played s now [] = []
played s now (Request.packet lent bytes ∷ more) =
    let memory = becomes (packet_answer s (length lent) (length bytes)) lent now in
    let answer = packet_result s (length memory) bytes in
    let after = memory_after_packet s memory bytes in
    Call.packet memory bytes answer after ∷ played answer.session (becomes answer.outcome now after) more
played s now (Request.finish ∷ more) =
    let answer = finish_result s in
    Call.finish answer ∷ unless_done answer.outcome (played answer.session now more)
played s now (Request.abandon ∷ more) = Call.abandon (abandon_result s) ∷ []

-- The bytes of a request's packet.
abbrev pub packet_of : (request : Request) → List ℕ
packet_of (Request.packet lent bytes) = bytes
packet_of Request.finish = []
packet_of Request.abandon = []

-- Every packet that is asked for is bytes.
abbrev pub AllBytes : (requests : List Request) → Type 0
AllBytes requests = (i : ℕ) → Bytes (packet_of (get_or requests i Request.finish))

-- Every list of requests leads to a list of calls that can be made, from any session and with any memory. A packet that
-- would be accepted is lent the transfer's memory (see `played`).
abbrev pub EveryListIsMade : Type 0
EveryListIsMade =
    (s : Session) (now : List ℕ) (requests : List Request) → AllBytes requests → Made s now (played s now requests)

-- What a call asked for.
abbrev pub request_of : (call : Call) → Request
request_of (Call.packet lent bytes answer after) = Request.packet lent bytes
request_of (Call.finish answer) = Request.finish
request_of (Call.abandon answer) = Request.abandon

-- No list is left out: what the calls of a list asked for leads to that list.
abbrev pub EveryMadeListIsPlayed : Type 0
EveryMadeListIsPlayed =
    (s : Session) (now : List ℕ) (calls : List Call) → Made s now calls → played s now (map request_of calls) ≡ calls
