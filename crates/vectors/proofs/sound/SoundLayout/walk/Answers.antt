-- A sound layout lies in 64-bit memory.
use Rattle.std.proofs.Common.{rules}
use Rattle.vectors.proofs.Fits.{placed}
use Rattle.vectors.proofs.sound.SoundLayout.walk.Goals as goal

pub walk-requires : goal.walk-requires
walk-requires c = search (rules, placed)
