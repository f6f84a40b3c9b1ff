-- A sum s above 0 has (s - 1) / 65,535 carries to add.
use Prim.Native.Nat.{◌-◌, ◌/◌}
use native.Mathlib.Omega.{arith}
use Rattle.guard.proofs.checksum.round.Goals as goal

pub returns-else-s-eq0 : goal.returns-else-s-eq0
returns-else-s-eq0 c = record { turns = (c.args.s - 1) / 65535; sum = omega arith; small = omega arith; nothing = λ e. omega arith }
