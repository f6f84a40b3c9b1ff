-- Case M (01): A's wire in packets of 0, 9, 0, 7 and 16 bytes, then finish. Here refused calls stand between them: a
-- packet that is too long, an early finish, and a packet that is lent a memory of another length. A second list stops
-- with an abandon.
--
--   part a n, bring bytes, requests_m, abandoned_m    what is asked for
--   session_m, memory_m                        the session and the memory at open
--   seen call, all calls                     the numbers that the calls return
--   CaseM                                    what they are, for both lists
--   MadeAndFollows requests, CaseMFollows    the lists can be made, and follow the packet rule
use Rattle.std.specs.Prelude.{◌≡◌, List, [], ◌∷◌, ℕ, take, drop, replicate}
use Rattle.key.specs.Numbers.{number}
use Rattle.packets.specs.declared.Session.{Session}
use Rattle.packets.specs.Sessions.{open_result}
use Rattle.packets.specs.PacketRule.{Call, Follows}
use Rattle.packets.specs.PacketRule.Call.{packet, finish, abandon}
use Rattle.packets.specs.Lists.{Made, Request, played}
use Rattle.audit.specs.Cases.{key_over, domain_a, field_a, wire}

-- n bytes of A's wire from byte a on.
abbrev pub part : (a n : ℕ) → List ℕ
part a n = take n (drop a (wire field_a 0))

-- The memory at open.
abbrev pub memory_m : List ℕ
memory_m = replicate 16 0xAA

-- A packet that is lent a memory of the right length.
abbrev pub bring : (bytes : List ℕ) → Request
bring bytes = Request.packet memory_m bytes

-- The packets and the finish, with refused calls between them.
abbrev pub requests_m : List Request
requests_m =
    bring [] ∷ bring (part 0 9) ∷ bring (part 0 24) ∷ Request.finish ∷ Request.packet [] (part 9 7)
    ∷ bring [] ∷ bring (part 9 7) ∷ bring (part 16 16) ∷ Request.finish ∷ []

-- The first packets, and then an abandon. A finish after it is dropped.
abbrev pub abandoned_m : List Request
abandoned_m = bring (part 0 9) ∷ bring (part 9 7) ∷ Request.abandon ∷ Request.finish ∷ []

-- The session of the open.
abbrev pub session_m : Session
session_m = (open_result (key_over 16 domain_a 0xFF) 16 (record { 0 = 0 }) 16).session

-- A call's number and totals.
abbrev pub seen : (c : Call) → List ℕ
seen (packet lent bytes answer after) = number answer.outcome ∷ answer.taken ∷ answer.written ∷ []
seen (finish answer) = number answer.outcome ∷ []
seen (abandon answer) = number answer.outcome ∷ []

-- The numbers of all calls of a list.
unfoldable pub all : (calls : List Call) → List (List ℕ)
all [] = []
all (c ∷ cs) = seen c ∷ all cs

-- Number, wire bytes taken, memory bytes written; the number alone of finish and abandon.
abbrev pub CaseM : Type 0
CaseM =
    (all (played session_m memory_m requests_m)
    ≡ (0 ∷ 0 ∷ 0 ∷ []) ∷ (0 ∷ 9 ∷ 8 ∷ []) ∷ (12 ∷ 0 ∷ 0 ∷ []) ∷ (13 ∷ []) ∷ (8 ∷ 0 ∷ 0 ∷ [])
    ∷ (0 ∷ 9 ∷ 8 ∷ []) ∷ (0 ∷ 16 ∷ 8 ∷ []) ∷ (0 ∷ 32 ∷ 16 ∷ []) ∷ (0 ∷ []) ∷ [])
    × (all (played session_m memory_m abandoned_m) ≡ (0 ∷ 9 ∷ 8 ∷ []) ∷ (0 ∷ 16 ∷ 8 ∷ []) ∷ (0 ∷ []) ∷ [])

-- The list that these requests lead to can be made, and follows the packet rule.
abbrev pub MadeAndFollows : (requests : List Request) → Type 0
MadeAndFollows requests =
    Made session_m memory_m (played session_m memory_m requests)
    × Follows (key_over 16 domain_a 0xFF) memory_m 0 16 [] memory_m session_m (played session_m memory_m requests)

-- Both lists can be made and follow the packet rule.
abbrev pub CaseMFollows : Type 0
CaseMFollows = MadeAndFollows requests_m × MadeAndFollows abandoned_m
