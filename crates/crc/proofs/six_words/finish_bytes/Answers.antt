use mathlib.Core.Path.{◌∙◌}
use Rattle.crc.proofs.Remainders.{then}
use Rattle.crc.proofs.Pieces.{followed_same}
use Rattle.crc.proofs.Registers.{crc_of_same}
use Rattle.crc.proofs.six_words.finish_bytes.Goals as goal

pub returns : goal.returns
returns c =
    c.finish_five.ensures
    ∙ crc_of_same (followed_same 8 _ (then c.shorten.ensures.0 c.join_six.ensures))
