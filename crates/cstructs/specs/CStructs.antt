-- Keys and sessions as C structs: conversion to and from them, and which of them are valid.
--
--   key_seal, session_seal                          the first words
--   signature_to_c, signature_from_c, configuration_from_c    signatures and configurations
--   tag_of error_type, slot_from_numbers n            the slot of an error's numbers
--   alike m n, error_valid n                       the numbers are the same; they are those of a slot
--   flag b, is_flag n                              a Bool as a number
--   key_from_c, key_to_c, configured_or_empty, c_key_valid      keys
--   side_from_c, side_to_c, c_side_valid                positions in a stream
--   session_from_c, session_to_c, c_session_valid       sessions
--   unsealed k, no_session k                       what is returned where there is no key or no session
use Rattle.std.specs.Prelude.{Bool, cond, ◌&&◌, ◌||◌, ℕ, eqb, replicate, Some, None}
use Rattle.field.specs.declared.Tag.{Tag}
use Rattle.field.specs.declared.Tag.TheVariants.{Guard, Application, Reference}
use Rattle.field.specs.Fields.{field_bytes}
use Rattle.slot.specs.Slots.{Slot, guard_error, reference_error, no_error, error_numbers}
use Rattle.slot.specs.declared.ErrorNumbers.{ErrorNumbers}
use Rattle.key.specs.declared.Signature.{Signature}
use Rattle.key.specs.declared.Configuration.{Configuration}
use Rattle.key.specs.declared.Key.{Key}
use Rattle.key.specs.Keys.{key_valid}
use Rattle.engine.specs.declared.Side.{Side}
use Rattle.packets.specs.declared.Session.{Session}
use Rattle.packets.specs.Sessions.{session_valid}
use Rattle.cstructs.specs.declared.CSignature.{CSignature}
use Rattle.cstructs.specs.declared.CConfiguration.{CConfiguration}
use Rattle.cstructs.specs.declared.CKey.{CKey}
use Rattle.cstructs.specs.declared.CSide.{CSide}
use Rattle.cstructs.specs.declared.CSession.{CSession}

-- A key's first word. Its lowest byte is the version of the structs.
abbrev pub key_seal : ℕ
key_seal = 0x4741524F4B455904

-- A session's first word.
abbrev pub session_seal : ℕ
session_seal = 0x4741524F53455304

-- ---- signatures and configurations

-- A signature as a C struct.
abbrev pub signature_to_c : (s : Signature) → CSignature
signature_to_c s = record {
  memory = s.memory;
  wire = s.wire;
  attribute_flags = s.attribute_flags;
  check_mask = s.check_mask;
  copy_mask = s.copy_mask;
  spare = 0;
}

-- A signature from its C struct. The spare number is ignored.
abbrev pub signature_from_c : (s : CSignature) → Signature
signature_from_c s = record {
  memory = s.memory;
  wire = s.wire;
  attribute_flags = s.attribute_flags;
  check_mask = s.check_mask;
  copy_mask = s.copy_mask;
}

-- A configuration from its C struct.
abbrev pub configuration_from_c : (c : CConfiguration) → Configuration
configuration_from_c c = record { signature = signature_from_c c.signature; layout = c.layout }

-- ---- the error slot

-- The tag of an error type.
abbrev pub tag_of : (error_type : ℕ) → Tag
tag_of t = cond (eqb t guard_error) Guard (cond (eqb t reference_error) Reference Application)

-- The slot of an error's numbers. Type 0 is an empty one.
unfoldable pub slot_from_numbers : (n : ErrorNumbers) → Slot
slot_from_numbers n =
    cond (eqb n.error_type 0) None
    (Some (record {
      mismatch = record {
        tag = tag_of n.error_type;
        actual = n.actual;
        expected = n.expected;
        differing = n.differing;
      };
      offset = n.offset;
    }))

-- All five numbers are the same.
abbrev pub alike : (m n : ErrorNumbers) → Bool
alike m n =
    eqb m.error_type n.error_type && eqb m.actual n.actual
    && eqb m.expected n.expected && eqb m.offset n.offset
    && eqb m.differing n.differing

-- The numbers are those of a slot: converting them to a slot and back gives them again.
abbrev pub error_valid : (n : ErrorNumbers) → Bool
error_valid n = alike n (error_numbers (slot_from_numbers n))

-- A Bool as a number.
abbrev pub flag : (b : Bool) → ℕ
flag b = cond b 1 0

-- The number is 0 or 1.
abbrev pub is_flag : (n : ℕ) → Bool
is_flag n = eqb n (flag (eqb n 1))

-- ---- keys

-- A key from its C struct.
abbrev pub key_from_c : (k : CKey) → Key
key_from_c k = record {
  configured = eqb k.configured 1;
  memory_length = k.memory_length;
  layout = k.layout;
  signature = signature_from_c k.signature;
  slot = slot_from_numbers k.error;
}

-- A key as a C struct.
abbrev pub key_to_c : (k : Key) → CKey
key_to_c k = record {
  seal = key_seal;
  memory_length = k.memory_length;
  layout = k.layout;
  signature = signature_to_c k.signature;
  configured = flag k.configured;
  error = error_numbers k.slot;
}

-- A key that was never configured holds no error.
abbrev pub configured_or_empty : (k : CKey) → Bool
configured_or_empty k = eqb k.configured 1 || eqb k.error.error_type 0

-- A C struct is a key if it has the seal, converting it and back gives it again, the key meets the precondition of the
-- calls, and it holds no error if it was never configured.
unfoldable pub c_key_valid : (k : CKey) → Bool
c_key_valid k =
    eqb k.seal key_seal && is_flag k.configured && eqb k.signature.spare 0
    && error_valid k.error && configured_or_empty k && key_valid (key_from_c k)

-- ---- sessions

-- A side from its C struct.
abbrev pub side_from_c : (s : CSide) → Side
side_from_c s = record { index = s.index; at = s.at; guard = record { value = s.guard; odd = eqb s.odd 1 } }

-- A side as a C struct.
abbrev pub side_to_c : (s : Side) → CSide
side_to_c s = record { index = s.index; at = s.at; odd = flag s.guard.odd; guard = s.guard.value; spare = 0 }

-- Converting it to a side and back gives it again.
abbrev pub c_side_valid : (s : CSide) → Bool
c_side_valid s = is_flag s.odd && eqb s.spare 0

-- A session from its C struct.
abbrev pub session_from_c : (s : CSession) → Session
session_from_c s = record {
  key = key_from_c s.key;
  offset = record { 0 = s.offset };
  data_length = s.data_length;
  progress = record {
    input = side_from_c s.input;
    output = side_from_c s.output;
    held = s.held;
    slot = slot_from_numbers s.error;
  };
}

-- A session as a C struct.
abbrev pub session_to_c : (s : Session) → CSession
session_to_c s = record {
  seal = session_seal;
  key = key_to_c s.key;
  offset = s.offset.0;
  data_length = s.data_length;
  input = side_to_c s.progress.input;
  output = side_to_c s.progress.output;
  error = error_numbers s.progress.slot;
  held = s.progress.held;
  spare = 0;
}

-- A C struct is a session if its key is valid, it has the seal, converting it and back gives it again, and the session
-- meets the precondition of the calls.
unfoldable pub c_session_valid : (s : CSession) → Bool
c_session_valid s =
    c_key_valid s.key
    && (eqb s.seal session_seal && c_side_valid s.input && c_side_valid s.output && eqb s.spare 0
    && error_valid s.error && session_valid (session_from_c s))

-- ---- what is returned where there is no key or no session

-- A C struct that is no key: it has no seal.
abbrev pub unsealed : (k : CKey) → CKey
unsealed k = record {
  seal = 0;
  memory_length = k.memory_length;
  layout = k.layout;
  signature = k.signature;
  configured = k.configured;
  error = k.error;
}

-- A C struct that is no session: it has no seal.
abbrev pub no_session : (k : CKey) → CSession
no_session k =
    let side : CSide = record { index = 0; at = 0; odd = 0; guard = 0; spare = 0 } in
    record {
      seal = 0;
      key = k;
      offset = 0;
      data_length = 0;
      input = side;
      output = side;
      error = no_error;
      held = replicate field_bytes 0;
      spare = 0;
    }
