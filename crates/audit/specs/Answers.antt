-- 01's "Numbered answers" for every call: the lines of the table that apply to it, in 01's order, with their numbers.
-- Line 20 is that of 02, request 11.
-- The contracts speak of outcomes; here these become numbers, by one definition. Fresh returns no answer.
--
--   Line, first_of lines      a line of the table; the number of the first line whose test holds, or 0
--   configure_lines, admission_lines, open_lines, transfer_lines, packet_lines, finish_lines    the lines of each call
--   NumberedAnswers          each call returns the first of its lines
--   key_line, session_line     our own lines for C, 1000 and 1001
--   CNumberedAnswers         each call of the C API returns the first of its lines, after 1000 or 1001
use Rattle.std.specs.Prelude.{◌≡◌, Bool, false, cond, ◌||◌, not, List, [], ◌∷◌, ℕ, ◌+◌, eqb, ltb, length}
use Rattle.layout.specs.declared.offset.LayoutOffset.{LayoutOffset}
use Rattle.layout.specs.Pieces.{pieces, total}
use Rattle.layout.specs.Answers.{malformed, some_beyond, some_share}
use Rattle.slot.specs.Slots.{no_error}
use Rattle.key.specs.declared.Configuration.{Configuration}
use Rattle.key.specs.declared.Key.{Key}
use Rattle.key.specs.Numbers.{number}
use Rattle.key.specs.Configuring.{memory_limit, bad_domains, bad_editions, bad_escape_tags, bad_copy_mask, unlike_sizes}
use Rattle.key.specs.Keys.{configure_result, NeverConfiguredZeros}
use Rattle.key.specs.Streams.{stream_length}
use Rattle.key.specs.Admitting.{partial}
use Rattle.transfer.specs.Transferring.{send_result, receive_result}
use Rattle.packets.specs.declared.Session.{Session}
use Rattle.packets.specs.Sessions.{taken_by, wire_length, open_result, packet_result, finish_result, abandon_result}
use Rattle.cstructs.specs.declared.CConfiguration.{CConfiguration}
use Rattle.cstructs.specs.declared.CKey.{CKey}
use Rattle.cstructs.specs.declared.CSession.{CSession}
use Rattle.cstructs.specs.CStructs.{configuration_from_c, key_from_c, c_key_valid, session_from_c, c_session_valid}
use Rattle.capi.specs.Calls.{not_key, not_session, c_configure, c_send, c_receive, c_check, c_open, c_packet, c_finish, c_abandon}

-- A line of the table: a number, and the test of "given exactly when".
pub data Line : Type 0 where
  line : (number : ℕ) (when : Bool) → Line

-- The number of the first line whose test holds, or 0.
unfoldable pub first_of : (lines : List Line) → ℕ
first_of [] = 0
first_of (Line.line number when ∷ more) = cond when number (first_of more)

-- ---- the lines of each call

-- Configure: 8, 1, 20, 2 to 7.
abbrev pub configure_lines : (memory_length : ℕ) (c : Configuration) → List Line
configure_lines memory_length c =
    let s = c.signature in
    let l = c.layout in
    Line.line 8 (ltb memory_limit memory_length)
    ∷ Line.line 1 (bad_domains s)
    ∷ Line.line 20 (bad_editions s)
    ∷ Line.line 2 (bad_escape_tags s)
    ∷ Line.line 3 (bad_copy_mask s)
    ∷ Line.line 4 (unlike_sizes s)
    ∷ Line.line 5 (malformed l)
    ∷ Line.line 6 (some_beyond memory_length (pieces l))
    ∷ Line.line 7 (some_share (pieces l))
    ∷ []

-- Transfer and open: 14, 8, 9, 10, then the lines `more`.
abbrev pub admission_lines : (k : Key) (memory_length offset data_length : ℕ) (more : List Line) → List Line
admission_lines k memory_length offset data_length more =
    Line.line 14 (not k.configured)
    ∷ Line.line 8 (not (eqb memory_length k.memory_length))
    ∷ Line.line 9 (partial k.signature.memory data_length || partial k.signature.wire data_length)
    ∷ Line.line 10 (ltb (total k.layout) (offset + stream_length k.signature.memory data_length))
    ∷ more

-- Open: 14, 8, 9, 10.
abbrev pub open_lines : (k : Key) (memory_length offset data_length : ℕ) → List Line
open_lines k memory_length offset data_length = admission_lines k memory_length offset data_length []

-- Send and receive: 14, 8, 9, 10, 11.
abbrev pub transfer_lines : (k : Key) (memory_length wire_length offset data_length : ℕ) → List Line
transfer_lines k memory_length wire_length offset data_length =
    admission_lines k memory_length offset data_length
    (Line.line 11 (ltb wire_length (stream_length k.signature.wire data_length)) ∷ [])

-- Packet: 8, 12.
abbrev pub packet_lines : (s : Session) (memory_length n : ℕ) → List Line
packet_lines s memory_length n =
    Line.line 8 (not (eqb memory_length s.key.memory_length))
    ∷ Line.line 12 (ltb (wire_length s) (taken_by s + n))
    ∷ []

-- Finish: 13.
abbrev pub finish_lines : (s : Session) → List Line
finish_lines s = Line.line 13 (ltb (taken_by s) (wire_length s)) ∷ []

-- ---- the statements

-- Each call returns the first of its lines. Abandon and check have none, and check returns zeros on a key that was
-- never configured.
pub record NumberedAnswers : Type 0 where
  pub configure :
      (k : Key) (n : ℕ) (c : Configuration) → number (configure_result k n c).outcome ≡ first_of (configure_lines n c)
  pub send :
      (k : Key) (memory wire : List ℕ) (offset data_length : ℕ)
      → number (send_result k memory wire offset data_length).outcome
      ≡ first_of (transfer_lines k (length memory) (length wire) offset data_length)
  pub receive :
      (k : Key) (memory wire : List ℕ) (offset data_length : ℕ)
      → number (receive_result k memory wire offset data_length).outcome
      ≡ first_of (transfer_lines k (length memory) (length wire) offset data_length)
  pub «open» :
      (k : Key) (n : ℕ) (offset : LayoutOffset) (data_length : ℕ)
      → number (open_result k n offset data_length).outcome ≡ first_of (open_lines k n offset.0 data_length)
  pub packet :
      (s : Session) (n : ℕ) (bytes : List ℕ)
      → number (packet_result s n bytes).outcome ≡ first_of (packet_lines s n (length bytes))
  pub finish : (s : Session) → number (finish_result s).outcome ≡ first_of (finish_lines s)
  pub abandon : (s : Session) → number (abandon_result s).outcome ≡ first_of []
  pub check : NeverConfiguredZeros

-- The line of a struct that is no key.
abbrev pub key_line : (c : CKey) → Line
key_line c = Line.line not_key (not (c_key_valid c))

-- The line of a struct that is no session.
abbrev pub session_line : (c : CSession) → Line
session_line c = Line.line not_session (not (c_session_valid c))

-- Each call of the C API returns the first of its lines, whatever the struct. The line of a struct that is no key or no
-- session comes first.
-- Check returns zeros on a struct of a key that was never configured.
pub record CNumberedAnswers : Type 0 where
  pub configure :
      (c : CKey) (n : ℕ) (new : CConfiguration)
      → (c_configure c n new).answer ≡ first_of (key_line c ∷ configure_lines n (configuration_from_c new))
  pub send :
      (c : CKey) (memory wire : List ℕ) (offset data_length : ℕ)
      → (c_send c memory wire offset data_length).answer
      ≡ first_of (key_line c ∷ transfer_lines (key_from_c c) (length memory) (length wire) offset data_length)
  pub receive :
      (c : CKey) (memory wire : List ℕ) (offset data_length : ℕ)
      → (c_receive c memory wire offset data_length).answer
      ≡ first_of (key_line c ∷ transfer_lines (key_from_c c) (length memory) (length wire) offset data_length)
  pub «open» :
      (c : CKey) (n offset data_length : ℕ)
      → (c_open c n offset data_length).answer ≡ first_of (key_line c ∷ open_lines (key_from_c c) n offset data_length)
  pub packet :
      (c : CSession) (n : ℕ) (bytes : List ℕ)
      → (c_packet c n bytes).answer ≡ first_of (session_line c ∷ packet_lines (session_from_c c) n (length bytes))
  pub finish : (c : CSession) → (c_finish c).answer ≡ first_of (session_line c ∷ finish_lines (session_from_c c))
  pub abandon : (c : CSession) → (c_abandon c).answer ≡ first_of (session_line c ∷ [])
  pub check : (c : CKey) → (c_check c).answer ≡ first_of (key_line c ∷ [])
  pub zeros : (c : CKey) → (key_from_c c).configured ≡ false → (c_check c).error ≡ no_error
