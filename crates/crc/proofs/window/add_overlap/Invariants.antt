use mathlib.Core.Path.{◌≡◌}
use Prim.Native.Nat.{◌-◌, ◌*◌, ◌^◌}
use lib.ListN.{length, take}
use lib.Bits.{bit_xor}
use Rattle.crc.specs.Inner.Folding.{bytes_at}
use Rattle.crc.proofs.window.add_overlap.Given as goal

abbrev pub invariant-loop-i : goal.invariant-loop-i
invariant-loop-i l =
    (length l.o ≡ length l.initial.o) × (take 338 l.o ≡ take 338 l.initial.o)
    × (bytes_at l.o 0 369 ≡ bit_xor (bytes_at l.initial.o 0 369) (bytes_at l.initial.o 0 l.i * 2 ^ (8 * (31 - l.i))))
