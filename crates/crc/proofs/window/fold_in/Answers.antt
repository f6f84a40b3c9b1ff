use mathlib.Core.Path.{ap₂}
use Rattle.crc.specs.Division.{followed}
use Rattle.crc.proofs.Remainders.{same, then}
use Rattle.crc.proofs.Reading.{rest_of}
use Rattle.crc.proofs.window.fold_in.Goals as goal

pub returns : goal.returns
returns c =
    then c.fold_window.ensures
    (then (same c.add_overlap.ensures)
    (then c.enter_all.ensures
    (same (ap₂ (followed 8) c.enter_first.ensures (rest_of c.args.s.now 2)))))
