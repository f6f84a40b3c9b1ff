-- The arrays are as long as the layout and its memory.
use Rattle.std.proofs.Common.{rules, arith}
use Rattle.layout.proofs.CursorLaws.{walked_left}
use Rattle.vectors.proofs.Fits.{placed}
use Rattle.vectors.proofs.sound.SoundLayout.scatter.Goals as goal

pub scatter-requires-clause-placed : goal.scatter-requires-clause-placed
scatter-requires-clause-placed c = placed _ _ (omega arith) (search rules)

pub scatter-requires-clause-in_layout : goal.scatter-requires-clause-in_layout
scatter-requires-clause-in_layout c = let ahead = walked_left _ _ _ c.walk.ensures in search rules
