use mathlib.Core.Path.{ap₂, ◌∙◌}
use native.Mathlib.Omega.{arith}
use lib.Bits.{bit_xor}
use Rattle.crc.proofs.Reading.{three_joined}
use Rattle.crc.proofs.first_three.Goals as goal

pub returns : goal.returns
returns c =
    ap₂ bit_xor
    (c.from_be_bytes.ensures ∙ three_joined c.args.bytes.now 0 c.requires (λ i. (c.type_inv.bytes i).fits))
    (omega (arith, c.from.ensures, c.ranges.start.fits))
