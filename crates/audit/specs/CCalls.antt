-- The calls of the C API, on C structs: what came from them is valid, each of them keeps that, and a refused one
-- changes nothing.
--
--   Refuses answer           the answer is not 0
--   CKeyCame c               the struct is that of a key that came from the calls
--   CSessionCame c           the struct is that of a session that came from the calls
--   CPremiseKept             each of the nine calls keeps that
--   CRefused                 demand 1: a refused call changes nothing
--   COneGoesOn               where a call returns a key and a session, at most one of them is valid
use Rattle.std.specs.Prelude.{◌≡◌, true, false, List, ℕ, length}
use Rattle.guard.specs.Guards.{Bytes}
use Rattle.slot.specs.Slots.{no_error}
use Rattle.key.specs.declared.Key.{Key}
use Rattle.key.specs.Keys.{fresh_key, CameFromCalls}
use Rattle.packets.specs.declared.Session.{Session}
use Rattle.packets.specs.Sessions.{SessionFromCalls}
use Rattle.cstructs.specs.declared.CConfiguration.{CConfiguration}
use Rattle.cstructs.specs.declared.CKey.{CKey}
use Rattle.cstructs.specs.declared.CSession.{CSession}
use Rattle.cstructs.specs.CStructs.{key_to_c, c_key_valid, session_to_c, c_session_valid, unsealed, no_session}
use Rattle.capi.specs.Calls.{c_configure, c_send, wire_after_c_send, c_receive, memory_after_c_receive, c_check, c_open}
use Rattle.capi.specs.Calls.{c_packet, memory_after_c_packet, c_finish, c_abandon}

-- The answer is not 0.
abbrev pub Refuses : (answer : ℕ) → Type 0
Refuses answer = answer ≡ 0 → ⊥

-- The struct is that of a key that came from the calls.
pub record CKeyCame (c : CKey) : Type 0 where
  pub key : Key
  pub came : CameFromCalls key
  pub same : c ≡ key_to_c key

-- The struct is that of a session that came from the calls.
pub record CSessionCame (c : CSession) : Type 0 where
  pub session : Session
  pub came : SessionFromCalls session
  pub same : c ≡ session_to_c session

-- Each of the nine calls, on what came from them, returns what came from them; and that is valid. Of the
-- key and the session that open and finish return, that is said of the one to go on with; `COneGoesOn` speaks of the
-- other.
pub record CPremiseKept : Type 0 where
  pub fresh : CKeyCame (key_to_c fresh_key)
  pub configure : (c : CKey) (n : ℕ) (new : CConfiguration) → CKeyCame c → CKeyCame (c_configure c n new).key
  pub send :
      (c : CKey) (memory wire : List ℕ) (offset data_length : ℕ)
      → CKeyCame c → CKeyCame (c_send c memory wire offset data_length).key
  pub receive :
      (c : CKey) (memory wire : List ℕ) (offset data_length : ℕ)
      → CKeyCame c → CKeyCame (c_receive c memory wire offset data_length).key
  pub check : (c : CKey) → CKeyCame c → CKeyCame (c_check c).key
  pub «open» :
      (c : CKey) (n offset data_length : ℕ)
      → CKeyCame c
      → let o = c_open c n offset data_length in
      (o.answer ≡ 0 → CSessionCame o.session) × (Refuses o.answer → CKeyCame o.key)
  pub packet :
      (c : CSession) (memory bytes : List ℕ)
      → Bytes bytes → CSessionCame c → CSessionCame (c_packet c (length memory) bytes).session
  pub finish :
      (c : CSession)
      → CSessionCame c
      → let f = c_finish c in (f.answer ≡ 0 → CKeyCame f.key) × (Refuses f.answer → CSessionCame f.session)
  pub abandon : (c : CSession) → CSessionCame c → CKeyCame (c_abandon c).key
  pub valid_key : (c : CKey) → CKeyCame c → c_key_valid c ≡ true
  pub valid_session : (c : CSession) → CSessionCame c → c_session_valid c ≡ true

-- Demand 1 for C: whatever the struct, a refused call returns it as it was, leaves the lent bytes, and returns zeros.
-- Where an accepted call would return a key or a session, a refused one returns a struct that is none.
pub record CRefused : Type 0 where
  pub configure :
      (c : CKey) (n : ℕ) (new : CConfiguration) → let a = c_configure c n new in Refuses a.answer → a.key ≡ c
  pub send :
      (c : CKey) (memory wire : List ℕ) (offset data_length : ℕ)
      → let a = c_send c memory wire offset data_length in Refuses a.answer
      → (a.key ≡ c) × (wire_after_c_send c memory wire offset data_length ≡ wire) × (a.taken ≡ 0) × (a.written ≡ 0)
  pub receive :
      (c : CKey) (memory wire : List ℕ) (offset data_length : ℕ)
      → let a = c_receive c memory wire offset data_length in Refuses a.answer
      → (a.key ≡ c) × (memory_after_c_receive c memory wire offset data_length ≡ memory)
      × (a.taken ≡ 0) × (a.written ≡ 0)
  pub check : (c : CKey) → let a = c_check c in Refuses a.answer → (a.key ≡ c) × (a.error ≡ no_error)
  pub «open» :
      (c : CKey) (n offset data_length : ℕ)
      → let a = c_open c n offset data_length in Refuses a.answer → (a.key ≡ c) × (a.session ≡ no_session c)
  pub packet :
      (c : CSession) (memory bytes : List ℕ)
      → let a = c_packet c (length memory) bytes in Refuses a.answer
      → (a.session ≡ c) × (memory_after_c_packet c memory bytes ≡ memory) × (a.taken ≡ 0) × (a.written ≡ 0)
  pub finish :
      (c : CSession) → let a = c_finish c in Refuses a.answer → (a.session ≡ c) × (a.key ≡ unsealed c.key)
  pub abandon : (c : CSession) → let a = c_abandon c in Refuses a.answer → a.key ≡ unsealed c.key

-- Open and finish return a key and a session, of which the caller goes on with one. The other is not valid, whatever
-- struct was passed, so that every call refuses it with 1000 or 1001. Nor is the key of a refused abandon. An accepted
-- open returns the key that it was given without its seal; `CRefused` has the like for a refused finish and abandon.
pub record COneGoesOn : Type 0 where
  pub opened :
      (c : CKey) (n offset data_length : ℕ)
      → let a = c_open c n offset data_length in
      (a.answer ≡ 0 → (a.key ≡ unsealed c) × (c_key_valid a.key ≡ false))
      × (Refuses a.answer → c_session_valid a.session ≡ false)
  pub finished :
      (c : CSession)
      → let a = c_finish c in
      (a.answer ≡ 0 → c_session_valid a.session ≡ false) × (Refuses a.answer → c_key_valid a.key ≡ false)
  pub abandoned : (c : CSession) → let a = c_abandon c in Refuses a.answer → c_key_valid a.key ≡ false
