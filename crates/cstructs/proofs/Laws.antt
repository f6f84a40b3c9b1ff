-- These laws are about C structs: conversion to C and back changes nothing, a valid struct converts to a valid key or
-- session, and the struct of what came from these calls is valid.
use Rattle.std.specs.Prelude.{Some, None, Ok, Err}
use mathlib.Core.Path.{◌≡◌, refl, sym}
use mathlib.Core.Bool.{Bool, true, false, ◌&&◌, ◌||◌}
use mathlib.Core.List.{List}
use Prim.Native.Nat.{ℕ}
use native.Mathlib.Omega.{arith}
use lib.Dec.{eqb}
use lib.ListN.{length}
use borrow.Author.Tests.{eq-eqb, eqb-true}
use Rattle.field.specs.declared.Mismatch.{Mismatch}
use Rattle.field.specs.declared.Tag.{Tag}
use Rattle.field.specs.declared.Tag.TheVariants.{Guard, Application, Reference}
use Rattle.key.specs.declared.Key.{Key}
use Rattle.slot.specs.Slots.{Slot, error_numbers}
use Rattle.key.specs.Numbers.{Outcome}
use Rattle.key.specs.Keys.{with_slot, key_valid, CameFromCalls, KeyValid}
use Rattle.key.specs.Streams.{stream_length}
use Rattle.key.proofs.Laws.{came_valid}
use Rattle.engine.specs.declared.Progress.{Progress}
use Rattle.engine.specs.declared.Side.{Side}
use Rattle.engine.specs.Feeding.{fed}
use Rattle.transfer.specs.Rules.{send_rule, receive_rule, error_in}
use Rattle.transfer.specs.Transferring.{memory_stream, wire_stream, transfer_result_by, answer_of, send_result, receive_result}
use Rattle.packets.specs.declared.Session.{Session}
use Rattle.packets.specs.Sessions.{rule_of, session_valid, SessionValid, SessionFromCalls, packet_answer, with_progress, packet_result_by, packet_result}
use Rattle.packets.proofs.PacketLaws.{valid_told, valid_passes, came_session_valid}
use Rattle.cstructs.specs.declared.CSignature.{CSignature}
use Rattle.slot.specs.declared.ErrorNumbers.{ErrorNumbers}
use Rattle.cstructs.specs.declared.CKey.{CKey}
use Rattle.cstructs.specs.declared.CSide.{CSide}
use Rattle.cstructs.specs.declared.CSession.{CSession}
use Rattle.cstructs.specs.CStructs.{key_seal, session_seal, signature_to_c, signature_from_c, slot_from_numbers, alike, flag, is_flag, error_valid, configured_or_empty, key_from_c, key_to_c, c_key_valid, side_from_c, side_to_c, c_side_valid, session_from_c, session_to_c, c_session_valid, unsealed, no_session}

-- If a && b is true, then a is true and b is true.
pub both : (a b : Bool) → a && b ≡ true → (a ≡ true) × (b ≡ true)
both true b h = (refl, h)
both false b h = let z : ◌≡◌ {A = ℕ} 0 1 = cc in absurd (omega arith)

-- ---- conversion to C and back

flag_round : (b : Bool) → eqb (flag b) 1 ≡ b
flag_round true = refl
flag_round false = refl

flag_passes : (b : Bool) → is_flag (flag b) ≡ true
flag_passes true = refl
flag_passes false = refl

-- Converting a slot to numbers and back gives it again.
slot_round : (s : Slot) → slot_from_numbers (error_numbers s) ≡ s
unfolding error_numbers slot_from_numbers
slot_round None = refl
slot_round (Some e) =
    go e.mismatch.tag e.mismatch.actual e.mismatch.expected e.mismatch.differing e.offset
  where
    go : (t : Tag) (a x d o : ℕ)
        → let m : Mismatch = record { tag = t; actual = a; expected = x; differing = d } in
        let e : Slot = Some (record { mismatch = m; offset = o }) in
        slot_from_numbers (error_numbers e) ≡ e
    go Guard a x d o = refl
    go Application a x d o = refl
    go Reference a x d o = refl

-- Converting a key to a C struct and back gives it again.
pub key_round_lem : (k : Key) → key_from_c (key_to_c k) ≡ k
key_round_lem k = rw (flag_round k.configured, slot_round k.slot) refl

-- Converting a side to a C struct and back gives it again.
side_round : (s : Side) → side_from_c (side_to_c s) ≡ s
side_round s = rw (flag_round s.guard.odd) refl

-- Converting a session to a C struct and back gives it again.
pub session_round_lem : (s : Session) → session_from_c (session_to_c s) ≡ s
session_round_lem s = rw (key_round_lem s.key, side_round s.progress.input, side_round s.progress.output, slot_round s.progress.slot) refl

-- ---- valid keys

-- Numbers of errors that `alike` finds the same are equal.
alike_told : (m n : ErrorNumbers) → alike m n ≡ true → m ≡ n
alike_told m n h =
    let d = both (eqb m.error_type n.error_type && eqb m.actual n.actual && eqb m.expected n.expected && eqb m.offset n.offset) (eqb m.differing n.differing) h in
    let a = both (eqb m.error_type n.error_type && eqb m.actual n.actual && eqb m.expected n.expected) (eqb m.offset n.offset) d.0 in
    let b = both (eqb m.error_type n.error_type && eqb m.actual n.actual) (eqb m.expected n.expected) a.0 in
    let c = both (eqb m.error_type n.error_type) (eqb m.actual n.actual) b.0 in
    let e : ◌≡◌ {A = ErrorNumbers} (record { error_type = m.error_type; actual = m.actual; expected = m.expected; offset = m.offset; differing = m.differing }) (record { error_type = n.error_type; actual = n.actual; expected = n.expected; offset = n.offset; differing = n.differing }) =
    rw (eqb-true m.error_type n.error_type c.0, eqb-true m.actual n.actual c.1, eqb-true m.expected n.expected b.1, eqb-true m.offset n.offset a.1, eqb-true m.differing n.differing d.1) refl in
    e

alike_self : (n : ErrorNumbers) → alike n n ≡ true
alike_self n = rw (eq-eqb n.error_type n.error_type refl, eq-eqb n.actual n.actual refl, eq-eqb n.expected n.expected refl, eq-eqb n.offset n.offset refl, eq-eqb n.differing n.differing refl) refl

-- The numbers of every slot are valid.
proper_passes : (s : Slot) → error_valid (error_numbers s) ≡ true
proper_passes s = rw (slot_round s) (alike_self (error_numbers s))

-- A valid C key that was never configured holds no error.
none_held : (r : CKey) → configured_or_empty r ≡ true → eqb r.configured 1 ≡ false → slot_from_numbers r.error ≡ None
unfolding slot_from_numbers
none_held r h never =
    let empty : eqb r.error.error_type 0 ≡ true = rw never at h in
    rw empty refl

-- A key from these calls that was never configured holds no error.
configured_or_empty_lem : (k : Key) → CameFromCalls k → configured_or_empty (key_to_c k) ≡ true
unfolding error_numbers
configured_or_empty_lem k came = go k.configured k.slot came.never
  where
    go : (b : Bool) (s : Slot) → (b ≡ false → s ≡ None) → eqb (flag b) 1 || eqb (error_numbers s).error_type 0 ≡ true
    go true s never = refl
    go false s never = rw (never refl) refl

-- A valid C key has these properties.
pub record KeyTold (r : CKey) : Type 0 where
  pub seal : r.seal ≡ key_seal
  pub configured : r.configured ≡ flag (eqb r.configured 1)
  pub signature : r.signature.spare ≡ 0
  pub error : r.error ≡ error_numbers (slot_from_numbers r.error)
  pub never : (key_from_c r).configured ≡ false → (key_from_c r).slot ≡ None
  pub key_valid : KeyValid (key_from_c r)

-- If the test `c_key_valid` is true, the properties of a valid C key hold.
pub key_told : (r : CKey) → c_key_valid r ≡ true → KeyTold r
unfolding c_key_valid
key_told r h =
    let a = both (eqb r.seal key_seal && is_flag r.configured && eqb r.signature.spare 0 && error_valid r.error && configured_or_empty r) (key_valid (key_from_c r)) h in
    let e = both (eqb r.seal key_seal && is_flag r.configured && eqb r.signature.spare 0 && error_valid r.error) (configured_or_empty r) a.0 in
    let b = both (eqb r.seal key_seal && is_flag r.configured && eqb r.signature.spare 0) (error_valid r.error) e.0 in
    let d = both (eqb r.seal key_seal && is_flag r.configured) (eqb r.signature.spare 0) b.0 in
    let f = both (eqb r.seal key_seal) (is_flag r.configured) d.0 in
    record {
      seal = eqb-true r.seal key_seal f.0;
      configured = eqb-true r.configured (flag (eqb r.configured 1)) f.1;
      signature = eqb-true r.signature.spare 0 d.1;
      error = alike_told r.error (error_numbers (slot_from_numbers r.error)) b.1;
      never = none_held r e.1;
      key_valid = a.1;
    }

-- A valid C key converts to a valid key.
pub valid_key : (r : CKey) → c_key_valid r ≡ true → KeyValid (key_from_c r)
valid_key r h = (key_told r h).key_valid

-- Converting a C signature whose spare number is 0 to a signature and back gives it again.
signature_back : (s : CSignature) → s.spare ≡ 0 → signature_to_c (signature_from_c s) ≡ s
signature_back s h = rw (sym h) refl

-- Converting a valid C key to a key and back gives it again, so a refused call returns it as it was.
pub key_back : (r : CKey) → c_key_valid r ≡ true → key_to_c (key_from_c r) ≡ r
key_back r h =
    let t = key_told r h in
    rw (sym t.error, ← t.configured, sym t.seal, signature_back r.signature t.signature) refl

-- A transfer changes nothing of a key but its slot.
slot_changed : (o : Outcome) (k : Key) (taken written : ℕ) (e : Slot) → let t = transfer_result_by o k taken written e in t.key ≡ with_slot k t.key.slot
slot_changed (Ok tt) k taken written e = refl
slot_changed (Err r) k taken written e = refl

module _ (k : Key) (memory wire : List ℕ) (offset data_length : ℕ) where
  -- Send changes nothing of a key but its slot.
  pub sent_key : let t = send_result k memory wire offset data_length in t.key ≡ with_slot k t.key.slot
  unfolding send_result
  sent_key =
      slot_changed (answer_of k memory wire offset data_length) k (stream_length k.signature.memory data_length) (stream_length k.signature.wire data_length)
      (error_in (send_rule k.signature) (memory_stream k memory offset data_length) data_length)

  -- Receive changes nothing of a key but its slot.
  pub received_key : let t = receive_result k memory wire offset data_length in t.key ≡ with_slot k t.key.slot
  unfolding receive_result
  received_key =
      slot_changed (answer_of k memory wire offset data_length) k (stream_length k.signature.wire data_length) (stream_length k.signature.memory data_length)
      (error_in (receive_rule k.signature) (wire_stream k wire data_length) data_length)

-- The C struct of every key from these calls is valid.
pub key_passes : (k : Key) → CameFromCalls k → c_key_valid (key_to_c k) ≡ true
unfolding c_key_valid
key_passes k came = rw (flag_passes k.configured, proper_passes k.slot, configured_or_empty_lem k came, key_round_lem k, came_valid k came) refl

-- ---- valid sessions

-- Converting a valid C side to a side and back gives it again.
side_back : (r : CSide) → c_side_valid r ≡ true → side_to_c (side_from_c r) ≡ r
side_back r h =
    let a = both (is_flag r.odd) (eqb r.spare 0) h in
    rw (← eqb-true r.odd (flag (eqb r.odd 1)) a.0, sym (eqb-true r.spare 0 a.1)) refl

-- A valid C session has these properties.
record SessionTold (r : CSession) : Type 0 where
  pub key : c_key_valid r.key ≡ true
  pub seal : r.seal ≡ session_seal
  pub input : side_to_c (side_from_c r.input) ≡ r.input
  pub output : side_to_c (side_from_c r.output) ≡ r.output
  pub spare : r.spare ≡ 0
  pub error : r.error ≡ error_numbers (slot_from_numbers r.error)
  pub session_valid : session_valid (session_from_c r) ≡ true

-- If the test `c_session_valid` is true, the properties of a valid C session hold.
told : (r : CSession) → c_session_valid r ≡ true → SessionTold r
unfolding c_session_valid
told r h =
    let a = both (c_key_valid r.key) _ h in
    let b = both (eqb r.seal session_seal && c_side_valid r.input && c_side_valid r.output && eqb r.spare 0 && error_valid r.error) (session_valid (session_from_c r)) a.1 in
    let c = both (eqb r.seal session_seal && c_side_valid r.input && c_side_valid r.output && eqb r.spare 0) (error_valid r.error) b.0 in
    let e = both (eqb r.seal session_seal && c_side_valid r.input && c_side_valid r.output) (eqb r.spare 0) c.0 in
    let d = both (eqb r.seal session_seal && c_side_valid r.input) (c_side_valid r.output) e.0 in
    let f = both (eqb r.seal session_seal) (c_side_valid r.input) d.0 in
    record {
      key = a.0;
      seal = eqb-true r.seal session_seal f.0;
      input = side_back r.input f.1;
      output = side_back r.output d.1;
      spare = eqb-true r.spare 0 e.1;
      error = alike_told r.error (error_numbers (slot_from_numbers r.error)) c.1;
      session_valid = b.1;
    }

-- A valid C session converts to a valid session if eight bytes are held, which their type guarantees.
pub session_told : (r : CSession) → c_session_valid r ≡ true → length r.held ≡ 8 → SessionValid (session_from_c r)
session_told r h e =
    let t = told r h in
    valid_told (session_from_c r) (key_told r.key t.key).key_valid t.session_valid e

-- Converting a valid C session to a session and back gives it again.
pub session_back : (r : CSession) → c_session_valid r ≡ true → session_to_c (session_from_c r) ≡ r
session_back r h =
    let t = told r h in
    rw (key_back r.key t.key, sym t.error, t.input, t.output, sym t.seal, sym t.spare) refl

-- A packet changes nothing of a session but its progress.
pub packet_result_session : (s : Session) (n : ℕ) (bytes : List ℕ) → let p = packet_result s n bytes in p.session ≡ with_progress s p.session.progress
unfolding packet_result
packet_result_session s n bytes = go (packet_answer s n (length bytes)) (fed (rule_of s) s.progress bytes)
  where
    go : (o : Outcome) (p : Progress) → (packet_result_by o s p).session ≡ with_progress s (packet_result_by o s p).session.progress
    go (Ok tt) p = refl
    go (Err r) p = refl

-- The C struct of every session from these calls is valid.
pub session_passes : (s : Session) → SessionFromCalls s → c_session_valid (session_to_c s) ≡ true
unfolding c_session_valid
session_passes s came =
    rw (
      key_passes s.key came.key,
      flag_passes s.progress.input.guard.odd,
      flag_passes s.progress.output.guard.odd,
      proper_passes s.progress.slot,
      session_round_lem s,
      valid_passes s (came_session_valid s came),
    ) refl

-- ---- what is returned where there is no key or no session

-- A C key without its seal is not valid.
pub no_key : (k : CKey) → c_key_valid (unsealed k) ≡ false
unfolding c_key_valid
no_key k = refl

-- A C session without its seal is not valid.
pub no_session_lem : (k : CKey) → c_session_valid (no_session k) ≡ false
unfolding c_session_valid
no_session_lem k = neither (c_key_valid k)
  where
    neither : (b : Bool) → b && false ≡ false
    neither true = refl
    neither false = refl
