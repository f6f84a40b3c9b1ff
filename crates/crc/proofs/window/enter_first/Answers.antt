use mathlib.Core.Path.{◌≡◌, ap, ◌∙◌}
use mathlib.Core.List.{List}
use Prim.Native.Nat.{ℕ, ◌/◌, ◌%◌}
use native.Mathlib.Omega.{arith}
use lib.ListN.{get_or}
use lib.Bits.{bit_xor}
use Rattle.crc.proofs.Windowing.{first_entered}
use Rattle.crc.proofs.window.enter_first.Goals as goal

pub returns : goal.returns
returns c =
    let s = c.args.s.now in
    let r = c.args.start in
    let blank = c.requires.0 in
    let bytes = c.to_be_bytes.ensures in
    let high : r / 256 % 256 ≡ r / 256 = omega (arith, c.ranges.start.fits) in
    first_entered c.args.o.now s r _ _ (omega (arith, blank.long)) blank.empty c.requires.1
    (ap (λ (l : List ℕ). bit_xor (get_or s 0 0) (get_or l 0 0)) bytes ∙ ap (bit_xor (get_or s 0 0)) high)
    (ap (λ (l : List ℕ). bit_xor (get_or s 1 0) (get_or l 1 0)) bytes)
