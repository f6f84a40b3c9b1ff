use mathlib.Core.Path.{◌≡◌}
use lib.ListN.{drop}
use Rattle.std.specs.List.{fold}
use Rattle.crc.proofs.Folding.{add_high}
use Rattle.crc.proofs.six_words.high_product.Given as goal

abbrev pub invariant-loop-k : goal.invariant-loop-k
invariant-loop-k l = fold (add_high l.h) l.sum (drop l.k-index l.powers) ≡ fold (add_high l.h) 0 l.powers
