use mathlib.Core.Path.{◌≡◌}
use lib.ListN.{length, take, drop}
use Rattle.crc.specs.Division.{followed}
use Rattle.crc.specs.Inner.Remainders.{Same}
use Rattle.crc.specs.Inner.Windows.{window}
use Rattle.crc.proofs.window.enter.Given as goal

abbrev pub invariant-loop-i : goal.invariant-loop-i
invariant-loop-i l =
    (length l.o ≡ length l.initial.o) × Same (window (drop l.i l.o)) (followed 8 (window l.initial.o) (take l.i l.s))
