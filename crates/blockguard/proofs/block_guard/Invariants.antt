-- The loop keeps the invariant that advancing over the bytes left leads to the guard after the whole block.
use mathlib.Core.Path.{◌≡◌}
use Rattle.std.specs.Slice.Iter.{chunks_rest, chunks_size}
use Rattle.guard.specs.Guards.{started, advanced}
use Rattle.blockguard.proofs.block_guard.Given as goal

abbrev pub invariant-loop-part : goal.invariant-loop-part
invariant-loop-part l =
    (chunks_size l.part-iterator ≡ 4294967296) × (advanced l.guard_type l.g (chunks_rest l.part-iterator) ≡ advanced l.guard_type (started l.seed) l.block)
