-- Keys: fresh, configure, check, and which keys come from these calls (01, "What stands" and "Error slot").
--
--   no_signature, no_layout, fresh_key       a key that was never configured
--   with_slot k slot                       the key with another slot
--   configured_key k memory_length c        the key after an accepted configure
--   configure_result_by, configure_result k memory_length c    what configure returns, for an outcome and for all input
--   check_result k                         what check returns
--   CameFromCalls k                       the key came from these calls: 01's one premise
--   NeverConfiguredZeros                  check returns zeros on a key that was never configured
--   accepts outcome                       the outcome is Ok
--   fields_valid, key_valid, KeyValid       the precondition of the calls, which every key from these calls meets
use Rattle.std.specs.Prelude.{◌≡◌, Bool, true, false, ◌&&◌, ◌||◌, not, ℕ, ltb, replicate, None, Ok, Err}
use Rattle.field.specs.Domains.{unsigned_domain}
use Rattle.layout.specs.declared.Layout.{Layout}
use Rattle.layout.specs.Pieces.{entries_max}
use Rattle.layout.specs.Answers.{fits}
use Rattle.slot.specs.Slots.{Slot, no_error, error_numbers}
use Rattle.key.specs.declared.Signature.{Signature}
use Rattle.key.specs.declared.Configuration.{Configuration}
use Rattle.slot.specs.declared.ErrorNumbers.{ErrorNumbers}
use Rattle.key.specs.declared.Key.{Key}
use Rattle.key.specs.Numbers.{Outcome}
use Rattle.key.specs.Configuring.{memory_limit, signature_answer, configure_answer}

-- No signature on either side, and zeros.
abbrev pub no_signature : Signature
no_signature = record {
  memory = unsigned_domain;
  wire = unsigned_domain;
  attribute_flags = 0;
  check_mask = 0;
  copy_mask = 0;
}

-- No entries.
abbrev pub no_layout : Layout
no_layout = record {
  entries = replicate entries_max (record { start = record { 0 = 0 }; count = 0; skip = 0 });
  used = 0;
  repeat = 0;
}

-- A key that was never configured.
abbrev pub fresh_key : Key
fresh_key = record {
  configured = false;
  memory_length = 0;
  layout = no_layout;
  signature = no_signature;
  slot = None;
}

-- The key with another slot.
abbrev pub with_slot : (k : Key) (slot : Slot) → Key
with_slot k s = record {
  configured = k.configured;
  memory_length = k.memory_length;
  layout = k.layout;
  signature = k.signature;
  slot = s;
}

-- The key after an accepted configure: all is new but the slot.
abbrev pub configured_key : (k : Key) (memory_length : ℕ) (c : Configuration) → Key
configured_key k memory_length c = record {
  configured = true;
  memory_length = memory_length;
  layout = c.layout;
  signature = c.signature;
  slot = k.slot;
}

-- What configure returns, and the key after it.
pub record ConfigureResult : Type 0 where
  pub outcome : Outcome
  pub key : Key

-- What check returns, and the key after it.
pub record CheckResult : Type 0 where
  pub error : ErrorNumbers
  pub key : Key

-- What configure returns for an outcome: a refused configure returns the key as it was.
abbrev pub configure_result_by : (outcome : Outcome) (k : Key) (memory_length : ℕ) (c : Configuration) → ConfigureResult
configure_result_by (Ok tt) k memory_length c = record { outcome = Ok tt; key = configured_key k memory_length c }
configure_result_by (Err r) k memory_length c = record { outcome = Err r; key = k }

-- What configure returns over a memory of this length.
abbrev pub configure_result : (k : Key) (memory_length : ℕ) (c : Configuration) → ConfigureResult
configure_result k memory_length c = configure_result_by (configure_answer memory_length c) k memory_length c

-- What check returns: the numbers of the slot, zeros if it is empty, and the key with its slot emptied.
unfoldable pub check_result : (k : Key) → CheckResult
check_result k = record { error = error_numbers k.slot; key = with_slot k None }

-- "Came from these calls": the key was never configured and its slot is empty, or configure accepts its fields.
pub record CameFromCalls (k : Key) : Type 0 where
  pub never : k.configured ≡ false → k.slot ≡ None
  pub accepted :
      k.configured ≡ true
      → configure_answer k.memory_length (record { signature = k.signature; layout = k.layout }) ≡ Ok tt

-- 01: "Check on a key never configured answers four zeros". By 02, request 6, they are five.
abbrev pub NeverConfiguredZeros : Type 0
NeverConfiguredZeros = (k : Key) → CameFromCalls k → k.configured ≡ false → (check_result k).error ≡ no_error

-- The outcome is Ok.
abbrev pub accepts : (outcome : Outcome) → Bool
accepts (Ok tt) = true
accepts (Err r) = false

-- If a key is configured, its memory is within the limit, its signature is accepted, and its layout fits the memory.
abbrev pub fields_valid : (configured : Bool) (memory_length : ℕ) (s : Signature) (l : Layout) → Bool
fields_valid configured memory_length s l =
    not configured || (not (ltb memory_limit memory_length) && (accepts (signature_answer s) && fits l memory_length))

-- The calls may be made on the key. Its slot does not matter.
unfoldable pub key_valid : (k : Key) → Bool
key_valid k = fields_valid k.configured k.memory_length k.signature k.layout

-- The precondition of the calls. Every key from these calls meets it (`proofs/Laws`, `came_valid`).
abbrev pub KeyValid : (k : Key) → Type 0
KeyValid k = key_valid k ≡ true
