-- The three cases of a C struct: it came from these calls, it is valid but came from elsewhere, or it is not valid. And
-- the conversion to C structs and back.
--
--   ActsAs k key, NoKey k                   a C key stands for a key; it is none
--   SessionActsAs s session, NoSession s    the same of a C session
--   CApi                                    the C API as a whole
use Rattle.std.specs.Prelude.{◌≡◌, true, false, List, ℕ, length, None}
use Rattle.field.specs.Fields.{field_bytes}
use Rattle.slot.specs.Slots.{no_error}
use Rattle.key.specs.declared.Key.{Key}
use Rattle.key.specs.Keys.{configure_result, check_result, CameFromCalls, KeyValid}
use Rattle.transfer.specs.Transferring.{send_result, wire_after_send, receive_result, memory_after_receive}
use Rattle.packets.specs.declared.Session.{Session}
use Rattle.packets.specs.Sessions.{open_result, packet_result, memory_after_packet, finish_result, abandon_result, SessionFromCalls, SessionValid}
use Rattle.cstructs.specs.declared.CConfiguration.{CConfiguration}
use Rattle.cstructs.specs.declared.CKey.{CKey}
use Rattle.cstructs.specs.declared.CSession.{CSession}
use Rattle.cstructs.specs.CStructs.{configuration_from_c, key_from_c, key_to_c, c_key_valid, unsealed}
use Rattle.cstructs.specs.CStructs.{session_from_c, session_to_c, c_session_valid, no_session}
use Rattle.capi.specs.Calls.{not_key, not_session, not_transferred, configure_result_to_c, transfer_result_to_c}
use Rattle.capi.specs.Calls.{check_result_to_c, open_result_to_c, packet_result_to_c, finish_result_to_c, abandon_result_to_c}
use Rattle.capi.specs.Calls.{c_configure, c_send, wire_after_c_send, c_receive, memory_after_c_receive, c_check, c_open}
use Rattle.capi.specs.Calls.{c_packet, memory_after_c_packet, c_finish, c_abandon}

-- A C key stands for this key: each call returns what the call below returns for the key.
pub record ActsAs (c : CKey) (k : Key) : Type 0 where
  pub configure :
      (n : ℕ) (new : CConfiguration)
      → c_configure c n new ≡ configure_result_to_c (configure_result k n (configuration_from_c new))
  pub send :
      (memory wire : List ℕ) (offset data_length : ℕ)
      → (c_send c memory wire offset data_length ≡ transfer_result_to_c (send_result k memory wire offset data_length))
      × (wire_after_c_send c memory wire offset data_length ≡ wire_after_send k memory wire offset data_length)
  pub receive :
      (memory wire : List ℕ) (offset data_length : ℕ)
      → (c_receive c memory wire offset data_length ≡ transfer_result_to_c (receive_result k memory wire offset data_length))
      × (memory_after_c_receive c memory wire offset data_length ≡ memory_after_receive k memory wire offset data_length)
  pub check : c_check c ≡ check_result_to_c (check_result k)
  pub «open» :
      (n offset data_length : ℕ)
      → c_open c n offset data_length ≡ open_result_to_c (open_result k n (record { 0 = offset }) data_length)

-- Any other struct where a key is wanted: a number of our own, and nothing changes.
pub record NoKey (c : CKey) : Type 0 where
  pub configure : (n : ℕ) (new : CConfiguration) → c_configure c n new ≡ record { key = c; answer = not_key }
  pub send :
      (memory wire : List ℕ) (offset data_length : ℕ)
      → (c_send c memory wire offset data_length ≡ not_transferred c)
      × (wire_after_c_send c memory wire offset data_length ≡ wire)
  pub receive :
      (memory wire : List ℕ) (offset data_length : ℕ)
      → (c_receive c memory wire offset data_length ≡ not_transferred c)
      × (memory_after_c_receive c memory wire offset data_length ≡ memory)
  pub check : c_check c ≡ record { key = c; answer = not_key; error = no_error; spare = 0 }
  pub «open» :
      (n offset data_length : ℕ)
      → c_open c n offset data_length ≡ record { key = c; session = no_session c; answer = not_key }

-- A C session stands for this session.
pub record SessionActsAs (c : CSession) (s : Session) : Type 0 where
  pub packet :
      (memory bytes : List ℕ)
      → (c_packet c (length memory) bytes ≡ packet_result_to_c (packet_result s (length memory) bytes))
      × (memory_after_c_packet c memory bytes ≡ memory_after_packet s memory bytes)
  pub finish : c_finish c ≡ finish_result_to_c (finish_result s)
  pub abandon : c_abandon c ≡ abandon_result_to_c (abandon_result s)

-- Any other struct where a session is wanted.
pub record NoSession (c : CSession) : Type 0 where
  pub packet :
      (memory bytes : List ℕ)
      → (c_packet c (length memory) bytes ≡ record { session = c; answer = not_session; taken = 0; written = 0 })
      × (memory_after_c_packet c memory bytes ≡ memory)
  pub finish : c_finish c ≡ record { key = unsealed c.key; session = c; answer = not_session }
  pub abandon : c_abandon c ≡ record { key = unsealed c.key; answer = not_session }

-- The C API as a whole.
pub record CApi : Type 0 where
  -- Converting every key and session to C and back gives it again.
  pub key_round : (k : Key) → key_from_c (key_to_c k) ≡ k
  pub session_round : (s : Session) → session_from_c (session_to_c s) ≡ s
  -- It came from these calls.
  pub key_came : (k : Key) → CameFromCalls k → ActsAs (key_to_c k) k
  pub session_came : (s : Session) → SessionFromCalls s → SessionActsAs (session_to_c s) s
  -- It is valid: the calls below are safe on it, and what they return unchanged is the struct as it was. The
  -- held bytes of a session are eight by their type. A key that was never configured holds no error.
  pub valid_key :
      (c : CKey) → c_key_valid c ≡ true
      → ActsAs c (key_from_c c) × KeyValid (key_from_c c) × (key_to_c (key_from_c c) ≡ c)
      × ((key_from_c c).configured ≡ false → (key_from_c c).slot ≡ None)
  pub valid_session :
      (c : CSession) → c_session_valid c ≡ true → length c.held ≡ field_bytes
      → SessionActsAs c (session_from_c c) × SessionValid (session_from_c c) × (session_to_c (session_from_c c) ≡ c)
  -- It is not valid.
  pub invalid_key : (c : CKey) → c_key_valid c ≡ false → NoKey c
  pub invalid_session : (c : CSession) → c_session_valid c ≡ false → NoSession c
  -- Nor is what a call returns where there is no key or no session.
  pub unsealed_invalid : (c : CKey) → c_key_valid (unsealed c) ≡ false
  pub no_session_invalid : (c : CKey) → c_session_valid (no_session c) ≡ false
