use mathlib.Core.Path.{ap}
use native.Mathlib.Omega.{arith}
use Rattle.crc.specs.Division.{followed}
use Rattle.crc.specs.Inner.Carried.{value}
use Rattle.crc.proofs.Remainders.{same, then}
use Rattle.crc.proofs.Carrying.{chunks_whole}
use Rattle.crc.proofs.six_words.append_six.Goals as goal

pub returns : goal.returns
returns c =
    then c.append_words.ensures
    (same (ap (followed 8 (value c.args.x)) (chunks_whole 8 c.args.six.now _ c.as_chunks.ensures.front (omega (arith, c.told-six)))))
