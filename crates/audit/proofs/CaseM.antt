-- These laws prove case M: its calls return 01's numbers, and its lists of calls can be made and follow the packet rule.
use Rattle.std.specs.Prelude.{Ok}
use mathlib.Core.Path.{◌≡◌, refl}
use mathlib.Core.Bool.{Bool, true, ◌&&◌}
use mathlib.Core.List.{List, [], ◌∷◌}
use Prim.Native.Nat.{zero, suc}
use Rattle.guard.specs.Guards.{stepped, guard_value}
use Rattle.key.specs.Keys.{fresh_key}
use Rattle.key.proofs.Laws.{came_fresh, came_configured}
use Rattle.engine.specs.Feeding.{checks_guard, makes_guard, arrived, error_due, field_made, settled, fed, emitted}
use Rattle.packets.specs.Sessions.{open_result, packet_answer, packet_result, memory_after_packet, finish_answer}
use Rattle.packets.specs.Lists.{Request, played, packet_of, AllBytes}
use Rattle.packets.proofs.Following.{played_made, packets_follow_the_rule}
use Rattle.cstructs.proofs.Laws.{both}
use Rattle.audit.specs.Cases.{key_over, domain_a}
use Rattle.audit.specs.CaseM.{requests_m, abandoned_m, session_m, memory_m, all, CaseM, MadeAndFollows, CaseMFollows}
use Rattle.audit.proofs.Computing.{opened, small, small_bytes}

-- Case M holds, since both of its sides compute to the same numbers.
pub case_m : CaseM
unfolding opened stepped guard_value checks_guard makes_guard arrived error_due field_made settled fed emitted packet_answer packet_result memory_after_packet finish_answer played all
case_m = (refl, refl)

-- ---- demand 3 for these lists

-- The test `all_small` is true if all packets that are asked for are bytes.
all_small : List Request → Bool
all_small [] = true
all_small (r ∷ rs) = small (packet_of r) && all_small rs

small_requests : (rs : List Request) → all_small rs ≡ true → AllBytes rs
unfolding all_small small
small_requests [] e i = small_bytes [] refl
small_requests (r ∷ rs) e zero = small_bytes (packet_of r) (both (small (packet_of r)) (all_small rs) e).0
small_requests (r ∷ rs) e (suc i) = small_requests rs (both (small (packet_of r)) (all_small rs) e).1 i

-- The open of case M is accepted.
opens : (open_result (key_over 16 domain_a 0xFF) 16 (record { 0 = 0 }) 16).outcome ≡ Ok tt
unfolding opened
opens = refl

-- A list of packets can be made, and demand 3 states that it follows the packet rule.
made_and_follows : (requests : List Request) → AllBytes requests → MadeAndFollows requests
made_and_follows requests b =
    let m = played_made session_m memory_m requests b in (
      m,
      packets_follow_the_rule (key_over 16 domain_a 0xFF) memory_m (record { 0 = 0 }) 16 (came_configured fresh_key 16 _ came_fresh)
          (open_result (key_over 16 domain_a 0xFF) 16 (record { 0 = 0 }) 16) refl opens (played session_m memory_m requests) m,
    )

-- Both lists of case M can be made and follow the packet rule.
pub case_m_follows : CaseMFollows
unfolding small all_small
case_m_follows = (made_and_follows requests_m (small_requests requests_m refl), made_and_follows abandoned_m (small_requests abandoned_m refl))
