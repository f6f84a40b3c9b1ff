-- These laws prove the three cases of a C struct: it came from these calls, it is valid without having come from them,
-- or it is not valid.
use mathlib.Core.Path.{◌≡◌, refl}
use mathlib.Core.Bool.{true, false}
use Rattle.key.specs.declared.Key.{Key}
use Rattle.key.specs.Keys.{CameFromCalls}
use Rattle.packets.specs.declared.Session.{Session}
use Rattle.packets.specs.Sessions.{SessionFromCalls}
use Rattle.cstructs.specs.declared.CKey.{CKey}
use Rattle.cstructs.specs.declared.CSession.{CSession}
use Rattle.cstructs.specs.CStructs.{key_from_c, key_to_c, c_key_valid, session_from_c, session_to_c, c_session_valid}
use Rattle.capi.specs.Calls.{c_configure, c_send, wire_after_c_send, c_receive, memory_after_c_receive, c_check, c_open, c_packet, memory_after_c_packet, c_finish, c_abandon}
use Rattle.capi.specs.ThreeCases.{ActsAs, NoKey, SessionActsAs, NoSession, CApi}
use Rattle.cstructs.proofs.Laws.{key_round_lem, session_round_lem, key_told, key_back, key_passes, session_told, session_back, session_passes, no_key, no_session_lem}

-- A valid C key stands for the key that it converts to.
acts : (r : CKey) → c_key_valid r ≡ true → ActsAs r (key_from_c r)
unfolding c_configure c_send wire_after_c_send c_receive memory_after_c_receive c_check c_open
acts r h = record {
  configure = λ n c. rw h refl;
  send = λ memory wire offset data_length. rw h (refl, refl);
  receive = λ memory wire offset data_length. rw h (refl, refl);
  check = rw h refl;
  «open» = λ n offset data_length. rw h refl;
}

-- The calls refuse a C key that is not valid, and change nothing.
fails : (r : CKey) → c_key_valid r ≡ false → NoKey r
unfolding c_configure c_send wire_after_c_send c_receive memory_after_c_receive c_check c_open
fails r h = record {
  configure = λ n c. rw h refl;
  send = λ memory wire offset data_length. rw h (refl, refl);
  receive = λ memory wire offset data_length. rw h (refl, refl);
  check = rw h refl;
  «open» = λ n offset data_length. rw h refl;
}

-- A valid C session stands for the session that it converts to.
pub session_acts : (r : CSession) → c_session_valid r ≡ true → SessionActsAs r (session_from_c r)
unfolding c_packet memory_after_c_packet c_finish c_abandon
session_acts r h = record { packet = λ memory bytes. rw h (refl, refl); finish = rw h refl; abandon = rw h refl }

-- The calls refuse a C session that is not valid, and change nothing.
session_fails : (r : CSession) → c_session_valid r ≡ false → NoSession r
unfolding c_packet memory_after_c_packet c_finish c_abandon
session_fails r h = record { packet = λ memory bytes. rw h (refl, refl); finish = rw h refl; abandon = rw h refl }

-- The C struct of a key from these calls stands for that key.
came : (k : Key) → CameFromCalls k → ActsAs (key_to_c k) k
came k c = rw (key_round_lem k) at (acts (key_to_c k) (key_passes k c))

-- The C struct of a session from these calls stands for that session.
session_came_lem : (s : Session) → SessionFromCalls s → SessionActsAs (session_to_c s) s
session_came_lem s c = rw (session_round_lem s) at (session_acts (session_to_c s) (session_passes s c))

-- All statements about the C API hold.
pub c_api : CApi
c_api = record {
  key_round = key_round_lem;
  session_round = session_round_lem;
  key_came = came;
  session_came = session_came_lem;
  valid_key = λ r h. (acts r h, (key_told r h).key_valid, key_back r h, (key_told r h).never);
  valid_session = λ r h e. (session_acts r h, session_told r h e, session_back r h);
  invalid_key = fails;
  invalid_session = session_fails;
  unsealed_invalid = no_key;
  no_session_invalid = no_session_lem;
}
