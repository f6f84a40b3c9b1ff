-- Laws about the size of a sound layout: it has no more bytes than the memory it lies in, and so it fits.
use mathlib.Core.Path.{◌≡◌, sym, ◌∙◌}
use mathlib.Core.Bool.{true}
use Prim.Native.Nat.{ℕ, ◌≤◌}
use native.Mathlib.Omega.{arith}
use lib.Dec.{eqb}
use lib.ListN.{length, get_or}
use borrow.Author.Tests.{eqb-true, ne_eqb, le-ltb}
use Rattle.std.proofs.lemmas.Map.Steps.{length-le_from_distinct_below}
use Rattle.std.proofs.lemmas.Map.Keys.{IsDistinct-from_apart}
use Rattle.std.proofs.lemmas.List.Folds.{Any-from_list_any}
use Rattle.std.proofs.lemmas.Grind.{get_or_default_zero}
use Rattle.layout.specs.Moves.{Distinct, Below}
use mathlib.Core.List.{List}
use Rattle.layout.specs.declared.Layout.{Layout}
use Rattle.layout.specs.Pieces.{places, total}
use Rattle.std.specs.Prelude.{Ok}
use Rattle.layout.specs.Answers.{verdict_on, fits}
use Rattle.layout.proofs.PieceLaws.{length-places}
use Rattle.layout.proofs.AnswerLaws.{sound, sound_distinct, sound_below}

-- If no two numbers of a list are the same, and all are below n, there are at most n.
few_distinct : (n : ℕ) (xs : List ℕ) → Distinct xs → Below n xs → length xs ≤ n
few_distinct n xs d w =
    length-le_from_distinct_below xs n
    (IsDistinct-from_apart eqb xs (λ i j x h k.
    ne_eqb (get_or xs i x) (get_or xs j x)
    (λ e. let z = d i j (omega arith) k (sym (get_or_default_zero xs i x (omega arith)) ∙ e ∙ get_or_default_zero xs j x k) in omega arith)))
    (λ q t.
    let a = Any-from_list_any (eqb q) xs t in
    omega (arith, eqb-true q a.1 a.4, a.3, get_or_default_zero xs a.0 a.1 a.2, w a.0 a.2))

-- A sound layout has no more bytes than the memory it lies in.
pub sound_total : (l : Layout) (n : ℕ) → verdict_on l n ≡ Ok tt → total l ≤ n
sound_total l n s =
    omega (arith, length-places l, few_distinct n (places l) (sound_distinct l n s) (sound_below l n s))

-- The test `fits` holds for every sound layout.
pub sound_fits : (l : Layout) (n : ℕ) → verdict_on l n ≡ Ok tt → fits l n ≡ true
unfolding fits
sound_fits l n s =
    let a = sound l n s in
    rw (a.0, a.1, le-ltb n (total l) (sound_total l n s))
