use mathlib.Core.Path.{refl, ◌∙◌}
use mathlib.Core.List.{[], ◌∷◌}
use Prim.Native.Nat.{◌/◌, ◌%◌, ◌^◌, ◌<◌}
use native.Mathlib.Omega.{arith}
use Rattle.crc.proofs.Carrying.{low_is_all, word_shortened, shortened_lt}
use Rattle.crc.proofs.six_words.shorten.Goals as goal

pub returns : goal.returns
returns c =
    let w = c.args.w in
    let small : w / 549755813888 < 2 ^ 25 = omega arith in
    let e = c.low_product.ensures 15 (10 ∷ 7 ∷ 0 ∷ []) refl ∙ low_is_all (w / 549755813888) small in
    (word_shortened w _ e, shortened_lt (w / 549755813888) (w % 549755813888) small (omega arith) e)
