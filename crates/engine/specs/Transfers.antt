-- The transfer rule (01, "The transfer rule") for both directions: the output stream and the first error that follow
-- from an input stream.
--
--   guard_by d block                  a domain's guard of a block
--   joined op none f i n             f i, f (i + 1) and so on, n of them, joined
--   data_of r stream n                the data of an input stream of n blocks
--   output_block r stream n j         block j of the output stream
--   field_after r stream j block      the field after block j of the output stream
--   output_unit r stream n j          unit j of the output stream
--   output_stream r stream n m        the output stream, of m blocks
--   slot_of offset judgement          a judgement as the slot holds it
--   error_by r i guard found          the error of input block i, given its guard and its field
--   error_of r stream i               the error of input block i of the stream
--   first_error r stream n            the first error of the first n blocks
use Rattle.field.specs.declared.Mismatch.{Mismatch}
use Rattle.std.specs.Prelude.{List, [], ◌++◌, cond, ℕ, zero, suc, ◌*◌, take, drop, Option, Some, None}
use Rattle.guard.specs.Guards.{guard_of}
use Rattle.field.specs.declared.Domain.{Domain}
use Rattle.field.specs.Domains.{signed}
use Rattle.field.specs.Fields.{bytes_of, field_of, computed_field}
use Rattle.field.specs.Judging.{judged}
use Rattle.field.specs.Output.{output_field}
use Rattle.slot.specs.Slots.{Slot, keep}
use Rattle.engine.specs.declared.Rule.{Rule}
use Rattle.engine.specs.Streams.{in_unit, out_block, input_block, input_field}

-- A domain's guard of a block.
abbrev pub guard_by : (d : Domain) (block : List ℕ) → ℕ
guard_by d block = guard_of d.guard_type d.seed block

-- f i, f (i + 1) and so on, n of them, joined.
unfoldable pub joined : {A : Type 0} → (op : A → A → A) (none : A) (f : ℕ → A) (i n : ℕ) → A
joined op none f i zero = none
joined op none f i (suc n) = op (f i) (joined op none f (suc i) n)

-- ---- the output stream

-- The data of an input stream of n blocks: its blocks joined.
unfoldable pub data_of : (r : Rule) (stream : List ℕ) (n : ℕ) → List ℕ
data_of r stream n = joined ◌++◌ [] (input_block r stream) 0 n

-- Block j of the output stream: that data, cut by the output's blocks.
unfoldable pub output_block : (r : Rule) (stream : List ℕ) (n j : ℕ) → List ℕ
output_block r stream n j = take (out_block r) (drop (j * out_block r) (data_of r stream n))

-- The field after block j of the output, which holds this data: each byte is copied from the field of input block j or
-- generated from the output domain.
unfoldable pub field_after : (r : Rule) (stream : List ℕ) (j : ℕ) (block : List ℕ) → List ℕ
field_after r stream j block =
    cond (signed r.output)
    (bytes_of
    (output_field r.copy_mask (field_of (input_field r stream j))
    (computed_field r.output j (guard_by r.output block)))) []

-- Unit j of the output stream: its block, and the field after it.
abbrev pub output_unit : (r : Rule) (stream : List ℕ) (n j : ℕ) → List ℕ
output_unit r stream n j = output_block r stream n j ++ field_after r stream j (output_block r stream n j)

-- The output stream, of m blocks.
unfoldable pub output_stream : (r : Rule) (stream : List ℕ) (n m : ℕ) → List ℕ
output_stream r stream n m = joined ◌++◌ [] (output_unit r stream n) 0 m

-- ---- the first error

-- A judgement of the block whose data begins at this offset of the input stream, as the slot holds it.
unfoldable pub slot_of : (offset : ℕ) (judgement : Option Mismatch) → Slot
slot_of offset None = None
slot_of offset (Some m) = Some (record { mismatch = m; offset = offset })

-- The error of input block i, given the guard of its data and the field after it. With no input signature nothing is
-- checked.
unfoldable pub error_by : (r : Rule) (i guard : ℕ) (found : List ℕ) → Slot
error_by r i g found =
    cond (signed r.input) (slot_of (i * in_unit r) (judged r.input r.check_mask i g (field_of found))) None

-- The error of input block i of the stream, or none.
abbrev pub error_of : (r : Rule) (stream : List ℕ) (i : ℕ) → Slot
error_of r stream i = error_by r i (guard_by r.input (input_block r stream i)) (input_field r stream i)

-- The first error of the first n blocks, or none.
unfoldable pub first_error : (r : Rule) (stream : List ℕ) (n : ℕ) → Slot
first_error r stream n = joined keep None (error_of r stream) 0 n
