use mathlib.Core.Path.{sym}
use lib.Bits.{xor_zero_r}
use Rattle.crc.specs.Division.{followed}
use Rattle.crc.proofs.Remainders.{same, then}
use Rattle.crc.proofs.Folding.{word_same}
use Rattle.crc.proofs.six_words.join_six.Goals as goal

pub returns : goal.returns
unfolding followed
returns c =
    let x = c.args.x in
    then c.join_two-5.ensures
    (word_same x.f
    (then c.join_two-4.ensures
    (word_same x.e
    (then c.join_two-3.ensures
    (word_same x.d
    (then c.join_two-2.ensures
    (word_same x.c
    (then c.join_two.ensures
    (word_same x.b (same (sym (xor_zero_r x.a))))))))))))
