-- The order's demand 3, as one statement about a list of calls as a whole.
--
--   Demand3     the statement
use Rattle.std.specs.Prelude.{◌≡◌, List, [], ℕ, length, Ok}
use Rattle.layout.specs.declared.offset.LayoutOffset.{LayoutOffset}
use Rattle.key.specs.declared.Key.{Key}
use Rattle.key.specs.Keys.{CameFromCalls}
use Rattle.packets.specs.Sessions.{OpenResult, open_result}
use Rattle.packets.specs.PacketRule.{Call, Follows}
use Rattle.packets.specs.Lists.{Made}

-- From an accepted open of a key that came from these calls, every list of packet, finish and abandon calls that can be
-- made, refused ones included, follows 01's packet rule: after each call memory, recorded error and answers are the
-- rule's for the bytes accepted so far, whatever is still to come. Once all bytes have come, they are those of one
-- receive. That a list can be made (`Made`) says what the order supposes: accepted packets are lent the transfer's
-- memory, and each call gets the session that the call before returned.
abbrev pub Demand3 : Type 0
Demand3 =
    (k : Key) (memory : List ℕ) (offset : LayoutOffset) (data_length : ℕ)
    → CameFromCalls k
    → (answer : OpenResult)
    → answer ≡ open_result k (length memory) offset data_length
    → answer.outcome ≡ Ok tt
    → (calls : List Call)
    → Made answer.session memory calls
    → Follows k memory offset.0 data_length [] memory answer.session calls
