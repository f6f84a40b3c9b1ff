use mathlib.Core.Path.{refl}
use mathlib.Core.List.{[], ◌∷◌}
use Rattle.crc.proofs.Carrying.{word_appended}
use Rattle.crc.proofs.six_words.append_word.Goals as goal

pub returns : goal.returns
returns c =
    let a = c.args in
    let x = a.x in
    rw (c.high_product.ensures 46 (15 ∷ []) refl, c.low_product.ensures 46 (15 ∷ []) refl)
    (word_appended x.a x.b x.c x.d x.e x.f a.w)
