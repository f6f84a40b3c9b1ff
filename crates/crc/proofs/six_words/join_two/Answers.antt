use mathlib.Core.Path.{refl}
use mathlib.Core.List.{[], ◌∷◌}
use borrow.Author.Rules.{rules}
use Rattle.crc.proofs.Carrying.{words-joined}
use Rattle.crc.proofs.six_words.join_two.Goals as goal

pub returns : goal.returns
returns c =
    let a = c.args in
    rw (
      c.low_product.ensures 28 (8 ∷ 1 ∷ []) refl,
      c.high_product.ensures 28 (8 ∷ 1 ∷ []) refl,
      c.low_product-2.ensures 28 (8 ∷ 1 ∷ []) refl,
    )
    (words-joined a.h a.w (search rules))
