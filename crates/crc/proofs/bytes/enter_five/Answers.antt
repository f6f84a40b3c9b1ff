use mathlib.Core.Path.{◌∙◌, ap}
use mathlib.Core.List.{List}
use Prim.Native.Nat.{ℕ}
use lib.ListN.{take, drop}
use Rattle.crc.specs.Crc.{crc}
use Rattle.crc.proofs.Registers.{crc_of_five}
use Rattle.crc.proofs.bytes.enter_five.Goals as goal

pub returns : goal.returns
returns c = c.enter.ensures
    ∙ ap (λ (l : List ℕ). crc 0 (take 5 (drop 3 l))) c.to_be_bytes.ensures
    ∙ crc_of_five c.args.n c.requires
