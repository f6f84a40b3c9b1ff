use mathlib.Core.Path.{◌∙◌}
use Rattle.crc.proofs.Registers.{crc_of_followed}
use Rattle.crc.proofs.bytes.finish_five.Goals as goal

pub returns : goal.returns
returns c =
    c.enter.ensures
    ∙ crc_of_followed _ _ _ (λ i. (c.type_inv.bytes i).fits) c.enter_five.ensures
