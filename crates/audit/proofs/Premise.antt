-- These laws prove that every call keeps "came from these calls", and that what came from these calls meets the
-- precondition of the calls.
use Rattle.std.specs.Prelude.{Ok, Err}
use mathlib.Core.Path.{◌≡◌, refl}
use mathlib.Core.List.{List}
use Prim.Native.Nat.{ℕ}
use lib.ListN.{length}
use Rattle.key.specs.declared.Key.{Key}
use Rattle.slot.specs.Slots.{Slot, keep}
use Rattle.key.specs.Numbers.{Outcome}
use Rattle.key.specs.Keys.{CameFromCalls}
use Rattle.key.specs.Admitting.{transfer_answer}
use Rattle.key.proofs.Laws.{came_valid, admitted, transfer_admitted, came_fresh, came_configured, came_with_error, came_checked}
use Rattle.transfer.specs.Transferring.{transfer_result_by, send_result, receive_result}
use Rattle.packets.specs.declared.Session.{Session}
use Rattle.packets.specs.Sessions.{SessionFromCalls, finish_answer, finish_result_by}
use Rattle.packets.proofs.PacketLaws.{came_session_valid, came_opened, came_packet, came_ended}
use Rattle.audit.specs.Premise.{PremiseKept}

-- The key that a transfer returns, accepted or refused, came from these calls.
answered_came : (k : Key) → CameFromCalls k → (n offset data_length w taken written : ℕ) (error : Slot) (o : Outcome) → transfer_answer k n offset data_length w ≡ o
    → CameFromCalls (transfer_result_by o k taken written error).key
answered_came k came n offset data_length w taken written error (Ok tt) e =
    came_with_error k (keep k.slot error) came (admitted k n offset data_length (came_valid k came) (transfer_admitted k n offset data_length w e).0).configured
answered_came k came n offset data_length w taken written error (Err r) e = came

-- The key that send returns came from these calls.
came_sending : (k : Key) (memory wire : List ℕ) (offset data_length : ℕ) → CameFromCalls k → CameFromCalls (send_result k memory wire offset data_length).key
unfolding send_result
came_sending k memory wire offset data_length came = answered_came k came (length memory) offset data_length (length wire) _ _ _ _ refl

-- The key that receive returns came from these calls.
came_receiving : (k : Key) (memory wire : List ℕ) (offset data_length : ℕ) → CameFromCalls k → CameFromCalls (receive_result k memory wire offset data_length).key
unfolding receive_result
came_receiving k memory wire offset data_length came = answered_came k came (length memory) offset data_length (length wire) _ _ _ _ refl

-- The key and the session that finish returns, accepted or refused, came from these calls.
finished_came : (o : Outcome) (s : Session) → SessionFromCalls s → CameFromCalls (finish_result_by o s).key × SessionFromCalls (finish_result_by o s).session
finished_came (Ok tt) s f = (came_ended s f, f)
finished_came (Err r) s f = (f.key, f)

-- Every call keeps the premise, and the premise implies the precondition of the calls.
pub premise_kept : PremiseKept
premise_kept = record {
  fresh = came_fresh;
  configure = came_configured;
  send = came_sending;
  receive = came_receiving;
  check = came_checked;
  keep_error = λ k found e c. came_with_error k _ c e;
  «open» = came_opened;
  packet = λ s m bytes b f. came_packet s f m bytes b;
  finish = λ s f. finished_came (finish_answer s) s f;
  abandon = came_ended;
  key_valid = came_valid;
  session_valid = came_session_valid;
}
