use Rattle.crc.proofs.Carrying.{words_added}
use Rattle.crc.proofs.six_words.add_two_words.Goals as goal

pub returns : goal.returns
returns c =
    let a = c.args in
    let x = a.x in
    words_added x.a x.b x.c x.d x.e x.f a.q a.p
