-- What the calls below return is what the definitions of the C API say of it.
use Rattle.std.specs.Prelude.{◌≡◌, List, ℕ, Result, Ok, Err}
use Rattle.std.proofs.Common.{refl, sym, ap, arith}
use Rattle.slot.specs.Slots.{Slot}
use Rattle.key.specs.declared.Key.{Key}
use Rattle.key.specs.declared.refusal.Refusal.{Refusal}
use Rattle.key.specs.Numbers.{Outcome, refusal_number}
use Rattle.key.specs.Keys.{with_slot}
use Rattle.key.specs.Streams.{stream_length}
use Rattle.transfer.specs.Rules.{send_rule, receive_rule, error_in}
use Rattle.transfer.specs.Transferring.{memory_stream, wire_stream, transfer_result_by, totals_of, answer_of, send_result, receive_result}
use Rattle.transfer.specs.declared.Totals.{Totals}
use Rattle.engine.specs.declared.Progress.{Progress}
use Rattle.packets.specs.declared.Session.{Session}
use Rattle.packets.specs.Sessions.{session_by, with_progress, packet_totals, packet_result_by}
use Rattle.cstructs.specs.declared.CKey.{CKey}
use Rattle.cstructs.specs.declared.CSession.{CSession}
use Rattle.cstructs.specs.CStructs.{key_to_c, unsealed, session_to_c}
use Rattle.capi.specs.declared.COpenResult.{COpenResult}
use Rattle.capi.specs.declared.CPacketResult.{CPacketResult}
use Rattle.capi.specs.Calls.{totals_to_c, transfer_result_to_c, open_result_to_c, packet_result_to_c}

-- A transfer changes nothing of the key but its slot.
transferred : (o : Outcome) (k : Key) (taken written : ℕ) (e : Slot)
    → let t = transfer_result_by o k taken written e in
    totals_to_c (key_to_c (with_slot k t.key.slot)) (totals_of t) ≡ transfer_result_to_c t
transferred (Ok tt) k taken written e = refl
transferred (Err r) k taken written e = refl

module _ (k : Key) (memory wire : List ℕ) (offset data_length : ℕ) where
  pub sent : let t = send_result k memory wire offset data_length in
      totals_to_c (key_to_c (with_slot k t.key.slot)) (totals_of t) ≡ transfer_result_to_c t
  unfolding send_result
  sent =
      transferred (answer_of k memory wire offset data_length) k (stream_length k.signature.memory data_length) (stream_length k.signature.wire data_length)
      (error_in (send_rule k.signature) (memory_stream k memory offset data_length) data_length)

  pub received : let t = receive_result k memory wire offset data_length in
      totals_to_c (key_to_c (with_slot k t.key.slot)) (totals_of t) ≡ transfer_result_to_c t
  unfolding receive_result
  received =
      transferred (answer_of k memory wire offset data_length) k (stream_length k.signature.wire data_length) (stream_length k.signature.memory data_length)
      (error_in (receive_rule k.signature) (wire_stream k wire data_length) data_length)

-- The result of an open that returns a session.
pub opened : (c : CKey) (k : Key) (s t : Session) (o : Outcome)
    → key_to_c k ≡ c
    → Ok t ≡ session_by o s
    → ◌≡◌ {A = COpenResult} (record { key = unsealed c; session = session_to_c t; answer = 0 }) (open_result_to_c (record { outcome = o; key = k; session = s }))
opened c k s t (Ok tt) h e = rw (sym h, ap (λ (r : Result Session Refusal). value r) e)
  where
    value : Result Session Refusal → Session
    value (Ok x) = x
    value (Err r) = t
opened c k s t (Err r) h e = let z : ◌≡◌ {A = ℕ} 0 1 = cc in absurd (omega arith)

-- The result of a packet that returns totals, and that of one that is refused.
module _ (s : Session) (p : Progress) where
  pub taken_with : (o : Outcome) (t : Totals)
      → Ok t ≡ packet_totals (packet_result_by o s p)
      → ◌≡◌ {A = CPacketResult} (record {
        session = session_to_c (with_progress s (packet_result_by o s p).session.progress);
        answer = 0;
        taken = t.taken;
        written = t.written;
      }) (packet_result_to_c (packet_result_by o s p))
  taken_with (Ok tt) t e = rw (ap (λ (r : Result Totals Refusal). value r) e)
    where
      value : Result Totals Refusal → Totals
      value (Ok x) = x
      value (Err r) = t
  taken_with (Err r) t e = let z : ◌≡◌ {A = ℕ} 0 1 = cc in absurd (omega arith)

  pub refused_with : (c : CSession) (o : Outcome) (x : Refusal)
      → session_to_c s ≡ c
      → Err x ≡ packet_totals (packet_result_by o s p)
      → ◌≡◌ {A = CPacketResult} (record { session = c; answer = refusal_number x; taken = 0; written = 0 }) (packet_result_to_c (packet_result_by o s p))
  refused_with c (Ok tt) x h e = let z : ◌≡◌ {A = ℕ} 0 1 = cc in absurd (omega arith)
  refused_with c (Err r) x h e = rw (sym h, ap (λ (r : Result Totals Refusal). value r) e)
    where
      value : Result Totals Refusal → Refusal
      value (Ok t) = x
      value (Err y) = y
