use Rattle.std.specs.List.{concat}
use lib.ListN.{drop}
use Rattle.crc.specs.Division.{followed}
use Rattle.crc.specs.Inner.Remainders.{Same}
use Rattle.crc.specs.Inner.Carried.{value}
use Rattle.crc.proofs.six_words.finish.Given as goal

abbrev pub invariant-loop-six : goal.invariant-loop-six
invariant-loop-six l =
    Same (followed 8 (value l.y) (concat (drop l.six-index l.sixes))) (followed 8 (value l.initial.y) (concat l.sixes))
