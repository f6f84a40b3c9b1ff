-- These laws show which blocks are escaped, that no byte of theirs is checked, and that a block with the configured
-- application tag is never escaped: configure refuses, with answer 2, a tag that would escape it.
use mathlib.Core.Path.{◌≡◌, refl, sym, ◌∙◌}
use mathlib.Core.Bool.{Bool, true, false, ◌&&◌, ◌||◌}
use mathlib.Core.List.{List}
use mathlib.Core.Logic.{inl, inr}
use Prim.Native.Nat.{ℕ, ◌+◌, ◌*◌, ◌≤◌, ◌<◌}
use native.Mathlib.Omega.{arith}
use lib.Dec.{eqb}
use lib.ListN.{get_or}
use borrow.Author.Tests.{eq-eqb, eqb-true}
use Rattle.guard.specs.Guards.{Bytes}
use Rattle.field.specs.declared.ProtectionField.{ProtectionField}
use Rattle.field.specs.Domains.{signed, escapes_by_application, escapes_by_both}
use Rattle.field.specs.Fields.{bytes_of}
use Rattle.field.specs.Judging.{escaped}
use Rattle.layout.proofs.AnswerLaws.{or_true}
use Rattle.key.specs.declared.Key.{Key}
use Rattle.key.proofs.Laws.{escape_shut}
use Rattle.engine.specs.declared.Rule.{Rule}
use Rattle.engine.specs.Streams.{in_block, in_unit}
use Rattle.cstructs.proofs.Laws.{both}
use Rattle.audit.specs.Errors.{found}
use Rattle.audit.specs.Escape.{AllOnes, EscapedBlock, CheckedByEscape, EscapedIsGood, NeverWrittenIsGood, UnwrittenHolds, EscapeShut}
use Rattle.audit.proofs.Ranges.{next_below}
use Rattle.audit.proofs.Computing.{opened}
use Rattle.audit.proofs.Errors.{apart}
use Rattle.audit.proofs.FieldBytes.{found_bytes}

-- ---- escaped blocks

module _ (r : Rule) (stream : List ℕ) (b : Bytes stream) (s : signed r.input ≡ true) (i : ℕ) where
  -- The field found after block i is `field`.
  field : ProtectionField
  field = found r stream i

  -- The property `TagByteIsFF k` says that byte k of the field is FF if it is a byte of a tag after the guard.
  abbrev TagByteIsFF : ℕ → Type 0
  TagByteIsFF k = 2 ≤ k → get_or stream (i * in_unit r + in_block r + k) 0 ≡ 0xFF

  -- Byte k of the field is the stream's own.
  byte : (k : ℕ) → k < 8 → get_or (bytes_of field) k 0 ≡ get_or stream (i * in_unit r + in_block r + k) 0
  unfolding field
  byte = found_bytes r stream b s i

  -- If the application tag is 0xFFFF, its two bytes are FF.
  application_ones : field.application ≡ 0xFFFF → (k : ℕ) → k < 4 → TagByteIsFF k
  unfolding bytes_of
  application_ones a =
      next_below TagByteIsFF 3 (next_below TagByteIsFF 2 (λ k h l. absurd (omega arith)) (λ l. omega (arith, a, byte 2 (omega arith))))
      (λ l. omega (arith, a, byte 3 (omega arith)))

  -- If the reference tag is 0xFFFFFFFF too, all six bytes of both tags are FF.
  tags_ones : field.application ≡ 0xFFFF → field.reference ≡ 0xFFFFFFFF → (k : ℕ) → k < 8 → TagByteIsFF k
  unfolding bytes_of
  tags_ones a f =
      next_below TagByteIsFF 7
      (next_below TagByteIsFF 6
      (next_below TagByteIsFF 5
      (next_below TagByteIsFF 4 (application_ones a) (λ l. omega (arith, f, byte 4 (omega arith))))
      (λ l. omega (arith, f, byte 5 (omega arith))))
      (λ l. omega (arith, f, byte 6 (omega arith))))
      (λ l. omega (arith, f, byte 7 (omega arith)))

  -- An application tag of two FF bytes is 0xFFFF.
  ones_application : (end : ℕ) → 4 ≤ end → AllOnes r stream i 2 end → field.application ≡ 0xFFFF
  unfolding bytes_of
  ones_application end e h =
      omega (arith, byte 2 (omega arith), byte 3 (omega arith), h 2 (omega arith) (omega arith), h 3 (omega arith) (omega arith))

  -- A reference tag of four FF bytes is 0xFFFFFFFF.
  ones_reference : AllOnes r stream i 2 8 → field.reference ≡ 0xFFFFFFFF
  unfolding bytes_of
  ones_reference h =
      omega (arith, byte 4 (omega arith), byte 5 (omega arith), byte 6 (omega arith), byte 7 (omega arith), h 4 (omega arith) (omega arith), h 5 (omega arith) (omega arith), h 6 (omega arith) (omega arith), h 7 (omega arith) (omega arith))

  -- A block with the bytes of an escape is one that `escaped` finds escaped.
  bytes_escaped : EscapedBlock r stream i → escaped r.input (found r stream i) ≡ true
  unfolding escaped field
  bytes_escaped (inl (p, h)) = rw (eq-eqb _ 0xFFFF (ones_application 4 (omega arith) h), p)
  bytes_escaped (inr (p, h)) =
      rw (eq-eqb _ 0xFFFF (ones_application 8 (omega arith) h), p, eq-eqb _ 0xFFFFFFFF (ones_reference h))
      (or_true (escapes_by_application r.input))

  -- A block that `escaped` finds escaped has the bytes of an escape.
  escaped_bytes : escaped r.input (found r stream i) ≡ true → EscapedBlock r stream i
  unfolding escaped field
  escaped_bytes e =
      let t = both _ _ e in
      go (eqb-true _ _ t.0) (escapes_by_application r.input) refl t.1
    where
      go : field.application ≡ 0xFFFF → (a : Bool) → escapes_by_application r.input ≡ a
          → a || (escapes_by_both r.input && eqb field.reference 0xFFFFFFFF) ≡ true → EscapedBlock r stream i
      go t true p h = inl (p, λ k l m. application_ones t k m l)
      go t false p h =
          let u = both _ _ h in
          inr (u.0, λ k l m. tags_ones t (eqb-true _ _ u.1) k m l)

-- A byte is checked exactly if its check bit is set and its block is not escaped.
pub checked_by_escape : (r : Rule) (stream : List ℕ) → CheckedByEscape r stream
checked_by_escape r stream b s i k = (
  λ c. (c.masked, λ e. apart (sym c.unescaped ∙ bytes_escaped r stream b s i e)),
  λ (m, n). record { masked = m; unescaped = go n (escaped r.input (found r stream i)) refl },
)
  where
    go : (EscapedBlock r stream i → ⊥) → (e : Bool) → escaped r.input (found r stream i) ≡ e → escaped r.input (found r stream i) ≡ false
    go n true e = absurd (n (escaped_bytes r stream b s i e))
    go n false e = e

-- An escaped block is good, because none of its bytes is checked.
pub escaped_is_good : (r : Rule) (stream : List ℕ) → EscapedIsGood r stream
escaped_is_good r stream b s i e k l c = absurd (((checked_by_escape r stream b s i k).0 c).1 e)

-- A unit whose field is eight bytes FF is good under either escape flag.
pub never_written_is_good : (r : Rule) (stream : List ℕ) → NeverWrittenIsGood r stream
never_written_is_good r stream b s flags i h =
    escaped_is_good r stream b s i (go (escapes_by_application r.input) refl flags)
  where
    go : (by : Bool) → escapes_by_application r.input ≡ by → by || escapes_by_both r.input ≡ true → EscapedBlock r stream i
    go true p f = inl (p, λ k l m. h k (omega arith) (omega arith))
    go false p f = inr (f, λ k l m. h k (omega arith) m)

-- A wire of FF bytes is no error under either escape flag, and an error without.
pub unwritten_holds : UnwrittenHolds
unfolding opened
unwritten_holds = record {
  crc_by_application = refl;
  crc_by_both = refl;
  crc_without_escape = refl;
  checksum_by_application = refl;
  checksum_by_both = refl;
  checksum_without_escape = refl;
}

-- ---- blocks that are never escaped

-- Under an accepted configuration no block with the configured application tag is escaped.
pub escape_is_shut : (k : Key) → EscapeShut k
escape_is_shut k c h =
    let s = escape_shut k.memory_length (record { signature = k.signature; layout = k.layout }) (c.accepted h) in
    (s.0.never, s.1.never)
