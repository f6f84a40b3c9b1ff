-- The calls of the C API, for every C struct and all input: a key or session gets what the call of the crates below
-- returns, any other struct a number of our own.
--
--   not_key, not_session                  our own answers
--   configure_result_to_c .. abandon_result_to_c    what the calls below return, as C structs
--   totals_to_c key totals                what a transfer returns, from its totals or its refusal
--   session_opened, key_opened, session_finished, key_finished    the key and the session of open and finish
--   not_transferred k                    what a transfer returns for a struct that is no key
--   c_configure, c_send, c_receive, c_check, c_open, c_packet, c_finish, c_abandon    what the calls return
--   wire_after_c_send, memory_after_c_receive, memory_after_c_packet    the lent bytes after them
use Rattle.std.specs.Prelude.{cond, List, ℕ, Result, Ok, Err}
use Rattle.slot.specs.Slots.{no_error}
use Rattle.key.specs.declared.refusal.Refusal.{Refusal}
use Rattle.key.specs.Numbers.{Outcome, refusal_number, number}
use Rattle.key.specs.Keys.{ConfigureResult, CheckResult, configure_result, check_result}
use Rattle.transfer.specs.declared.Totals.{Totals}
use Rattle.transfer.specs.Transferring.{TransferResult, send_result, wire_after_send, receive_result, memory_after_receive}
use Rattle.packets.specs.Sessions.{OpenResult, PacketResult, FinishResult, AbandonResult, open_result, packet_result, memory_after_packet, finish_result, abandon_result}
use Rattle.cstructs.specs.declared.CConfiguration.{CConfiguration}
use Rattle.cstructs.specs.declared.CKey.{CKey}
use Rattle.cstructs.specs.declared.CSession.{CSession}
use Rattle.cstructs.specs.CStructs.{configuration_from_c, key_from_c, key_to_c, c_key_valid, unsealed}
use Rattle.cstructs.specs.CStructs.{session_from_c, session_to_c, c_session_valid, no_session}
use Rattle.capi.specs.declared.CConfigureResult.{CConfigureResult}
use Rattle.capi.specs.declared.CTransferResult.{CTransferResult}
use Rattle.capi.specs.declared.CCheckResult.{CCheckResult}
use Rattle.capi.specs.declared.COpenResult.{COpenResult}
use Rattle.capi.specs.declared.CPacketResult.{CPacketResult}
use Rattle.capi.specs.declared.CFinishResult.{CFinishResult}
use Rattle.capi.specs.declared.CAbandonResult.{CAbandonResult}

-- Our own answer for a struct that is no key.
abbrev pub not_key : ℕ
not_key = 1000

-- Our own answer for a struct that is no session.
abbrev pub not_session : ℕ
not_session = 1001

-- ---- what the calls below return, as C structs

-- Configure.
abbrev pub configure_result_to_c : (c : ConfigureResult) → CConfigureResult
configure_result_to_c c = record { key = key_to_c c.key; answer = number c.outcome }

-- Send and receive.
abbrev pub transfer_result_to_c : (t : TransferResult) → CTransferResult
transfer_result_to_c t =
    record { key = key_to_c t.key; answer = number t.outcome; taken = t.taken; written = t.written }

-- The same, from the key after it and its totals or its refusal.
abbrev pub totals_to_c : (key : CKey) (totals : Result Totals Refusal) → CTransferResult
totals_to_c key (Ok t) = record { key = key; answer = 0; taken = t.taken; written = t.written }
totals_to_c key (Err r) = record { key = key; answer = refusal_number r; taken = 0; written = 0 }

-- Check. Its answer is 0.
abbrev pub check_result_to_c : (c : CheckResult) → CCheckResult
check_result_to_c c = record { key = key_to_c c.key; answer = 0; error = c.error; spare = 0 }

-- The session of an open, or none if it was refused.
abbrev pub session_opened : (outcome : Outcome) (o : OpenResult) → CSession
session_opened (Ok tt) o = session_to_c o.session
session_opened (Err r) o = no_session (key_to_c o.key)

-- The key of a refused open, as it was given. An accepted one returns none: the caller goes on with the session.
abbrev pub key_opened : (outcome : Outcome) (o : OpenResult) → CKey
key_opened (Ok tt) o = unsealed (key_to_c o.key)
key_opened (Err r) o = key_to_c o.key

-- Open.
abbrev pub open_result_to_c : (o : OpenResult) → COpenResult
open_result_to_c o = record {
  key = key_opened o.outcome o;
  session = session_opened o.outcome o;
  answer = number o.outcome;
}

-- Packet.
abbrev pub packet_result_to_c : (p : PacketResult) → CPacketResult
packet_result_to_c p =
    record { session = session_to_c p.session; answer = number p.outcome; taken = p.taken; written = p.written }

-- The session of a refused finish. An accepted one ends the session.
abbrev pub session_finished : (outcome : Outcome) (f : FinishResult) → CSession
session_finished (Ok tt) f = no_session (key_to_c f.key)
session_finished (Err r) f = session_to_c f.session

-- The key of a finish, or none if it was refused.
abbrev pub key_finished : (outcome : Outcome) (f : FinishResult) → CKey
key_finished (Ok tt) f = key_to_c f.key
key_finished (Err r) f = unsealed (key_to_c f.key)

-- Finish.
abbrev pub finish_result_to_c : (f : FinishResult) → CFinishResult
finish_result_to_c f = record {
  key = key_finished f.outcome f;
  session = session_finished f.outcome f;
  answer = number f.outcome;
}

-- Abandon.
abbrev pub abandon_result_to_c : (a : AbandonResult) → CAbandonResult
abandon_result_to_c a = record { key = key_to_c a.key; answer = number a.outcome }

-- ---- the calls

-- What garoalva_configure returns.
unfoldable pub c_configure : (k : CKey) (memory_length : ℕ) (c : CConfiguration) → CConfigureResult
c_configure k memory_length c =
    cond (c_key_valid k) (configure_result_to_c (configure_result (key_from_c k) memory_length (configuration_from_c c)))
    (record { key = k; answer = not_key })

-- A transfer on a struct that is no key.
abbrev pub not_transferred : (k : CKey) → CTransferResult
not_transferred k = record { key = k; answer = not_key; taken = 0; written = 0 }

-- What garoalva_send returns.
unfoldable pub c_send : (k : CKey) (memory wire : List ℕ) (offset data_length : ℕ) → CTransferResult
c_send k memory wire offset data_length =
    cond (c_key_valid k) (transfer_result_to_c (send_result (key_from_c k) memory wire offset data_length)) (not_transferred k)

-- The lent wire after it.
unfoldable pub wire_after_c_send : (k : CKey) (memory wire : List ℕ) (offset data_length : ℕ) → List ℕ
wire_after_c_send k memory wire offset data_length =
    cond (c_key_valid k) (wire_after_send (key_from_c k) memory wire offset data_length) wire

-- What garoalva_receive returns.
unfoldable pub c_receive : (k : CKey) (memory wire : List ℕ) (offset data_length : ℕ) → CTransferResult
c_receive k memory wire offset data_length =
    cond (c_key_valid k) (transfer_result_to_c (receive_result (key_from_c k) memory wire offset data_length)) (not_transferred k)

-- The lent memory after it.
unfoldable pub memory_after_c_receive : (k : CKey) (memory wire : List ℕ) (offset data_length : ℕ) → List ℕ
memory_after_c_receive k memory wire offset data_length =
    cond (c_key_valid k) (memory_after_receive (key_from_c k) memory wire offset data_length) memory

-- What garoalva_check returns.
unfoldable pub c_check : (k : CKey) → CCheckResult
c_check k =
    cond (c_key_valid k) (check_result_to_c (check_result (key_from_c k)))
    (record { key = k; answer = not_key; error = no_error; spare = 0 })

-- What garoalva_open returns.
unfoldable pub c_open : (k : CKey) (memory_length offset data_length : ℕ) → COpenResult
c_open k memory_length offset data_length =
    cond (c_key_valid k) (open_result_to_c (open_result (key_from_c k) memory_length (record { 0 = offset }) data_length))
    (record { key = k; session = no_session k; answer = not_key })

-- What garoalva_packet returns.
unfoldable pub c_packet : (s : CSession) (memory_length : ℕ) (bytes : List ℕ) → CPacketResult
c_packet s memory_length bytes =
    cond (c_session_valid s) (packet_result_to_c (packet_result (session_from_c s) memory_length bytes))
    (record { session = s; answer = not_session; taken = 0; written = 0 })

-- The lent memory after it.
unfoldable pub memory_after_c_packet : (s : CSession) (memory bytes : List ℕ) → List ℕ
memory_after_c_packet s memory bytes = cond (c_session_valid s) (memory_after_packet (session_from_c s) memory bytes) memory

-- What garoalva_finish returns. A struct that is no session comes back as it was, with no key.
unfoldable pub c_finish : (s : CSession) → CFinishResult
c_finish s =
    cond (c_session_valid s) (finish_result_to_c (finish_result (session_from_c s)))
    (record { key = unsealed s.key; session = s; answer = not_session })

-- What garoalva_abandon returns.
unfoldable pub c_abandon : (s : CSession) → CAbandonResult
c_abandon s =
    cond (c_session_valid s) (abandon_result_to_c (abandon_result (session_from_c s)))
    (record { key = unsealed s.key; answer = not_session })
