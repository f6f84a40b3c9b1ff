use Rattle.std.specs.List.{concat}
use lib.ListN.{drop}
use Rattle.crc.specs.Division.{followed}
use Rattle.crc.specs.Inner.Remainders.{Same}
use Rattle.crc.specs.Inner.Carried.{value}
use Rattle.crc.proofs.six_words.append_words.Given as goal

abbrev pub invariant-loop-word : goal.invariant-loop-word
invariant-loop-word l =
    Same (followed 8 (value l.y) (concat (drop l.word-index l.words))) (followed 8 (value l.initial.y) (concat l.words))
