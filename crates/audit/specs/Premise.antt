-- 01: "The one premise that a call may state is that its key or session came from these calls." Every call keeps it,
-- and what came from these calls meets the precondition of the calls.
--
--   PremiseKept      the statement, with a line for each of the nine calls
use Rattle.std.specs.Prelude.{◌≡◌, true, List, ℕ, Ok}
use Rattle.guard.specs.Guards.{Bytes}
use Rattle.layout.specs.declared.offset.LayoutOffset.{LayoutOffset}
use Rattle.slot.specs.Slots.{Slot, keep}
use Rattle.key.specs.declared.Key.{Key}
use Rattle.key.specs.declared.Configuration.{Configuration}
use Rattle.key.specs.Keys.{fresh_key, with_slot, configure_result, check_result, CameFromCalls, KeyValid}
use Rattle.key.specs.Admitting.{open_answer}
use Rattle.transfer.specs.Transferring.{send_result, receive_result}
use Rattle.packets.specs.declared.Session.{Session}
use Rattle.packets.specs.Sessions.{open_result, packet_result, finish_result, abandon_result, SessionFromCalls, SessionValid}

pub record PremiseKept : Type 0 where
  -- Keys.
  pub fresh : CameFromCalls fresh_key
  pub configure :
      (k : Key) (memory_length : ℕ) (c : Configuration)
      → CameFromCalls k → CameFromCalls (configure_result k memory_length c).key
  pub send :
      (k : Key) (memory wire : List ℕ) (offset data_length : ℕ)
      → CameFromCalls k → CameFromCalls (send_result k memory wire offset data_length).key
  pub receive :
      (k : Key) (memory wire : List ℕ) (offset data_length : ℕ)
      → CameFromCalls k → CameFromCalls (receive_result k memory wire offset data_length).key
  pub check : (k : Key) → CameFromCalls k → CameFromCalls (check_result k).key
  -- `key::keep_error`, by which a transfer records an error. It requires a configured key: no other key holds one.
  pub keep_error :
      (k : Key) (found : Slot)
      → k.configured ≡ true → CameFromCalls k → CameFromCalls (with_slot k (keep k.slot found))
  -- Sessions, and the keys that they return.
  pub «open» :
      (k : Key) (memory_length : ℕ) (offset : LayoutOffset) (data_length : ℕ)
      → CameFromCalls k → open_answer k memory_length offset.0 data_length ≡ Ok tt
      → SessionFromCalls (open_result k memory_length offset data_length).session
  pub packet :
      (s : Session) (memory_length : ℕ) (bytes : List ℕ)
      → Bytes bytes → SessionFromCalls s → SessionFromCalls (packet_result s memory_length bytes).session
  pub finish :
      (s : Session) → SessionFromCalls s
      → CameFromCalls (finish_result s).key × SessionFromCalls (finish_result s).session
  pub abandon : (s : Session) → SessionFromCalls s → CameFromCalls (abandon_result s).key
  -- The precondition of the calls.
  pub key_valid : (k : Key) → CameFromCalls k → KeyValid k
  pub session_valid : (s : Session) → SessionFromCalls s → SessionValid s
