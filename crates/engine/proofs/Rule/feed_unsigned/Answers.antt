use native.Mathlib.Omega.{arith}
use Rattle.std.proofs.lemmas.Bool.Decides.{nat_tests}
use Rattle.engine.proofs.BareLaws.{bare_none, bare_done}
use Rattle.engine.proofs.Rule.feed_unsigned.Goals as goal

pub returns-then-is_empty : goal.returns-then-is_empty
returns-then-is_empty c = bare_none _ c.requires.unsigned _ _ _ _ _ c.requires.feedable (grind (arith, nat_tests))

pub returns : goal.returns
returns c =
    rw (c.block_start-output.ensures, c.block_start-input.ensures)
    (bare_done _ c.requires.unsigned _ _ _ _ _ c.requires.feedable (grind (arith, nat_tests)) _ _ c.scatter-cursor.ensures)
