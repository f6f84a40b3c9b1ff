use mathlib.Core.Path.{◌≡◌}
use Rattle.std.specs.Slice.Iter.{chunks_rest, chunks_size}
use Rattle.crc.specs.Division.{followed}
use Rattle.crc.specs.Inner.Remainders.{Same}
use Rattle.crc.specs.Inner.Windows.{window}
use Rattle.crc.proofs.window.enter_all.Given as goal

abbrev pub invariant-loop-part : goal.invariant-loop-part
invariant-loop-part l =
    (chunks_size l.part-iterator ≡ 1040)
    × Same (followed 8 (window l.o) (chunks_rest l.part-iterator)) (followed 8 (window l.initial.o) l.s)
