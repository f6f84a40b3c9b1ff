-- The offset is that of a byte of some repeat, or it is the layout's end.
use Rattle.std.proofs.Common.{◌≡◌, ℕ, ◌*◌, ◌/◌, ◌≤◌, subst, ap, arith, div-add-mod'}
use native.Mathlib.Nat.{mul-le-mul_right}
use Rattle.layout.specs.Pieces.{in_use, span, total}
use Rattle.layout.specs.Inner.Cursors.{Walked}
use Rattle.layout.proofs.PieceLaws.{size-repeats, total_none}
use Rattle.layout.proofs.cursor.walk.Goals as goal

pub find_in_repeat-requires : goal.find_in_repeat-requires
find_in_repeat-requires c =
    let l = c.args.l in
    let one : l.repeat * span (in_use l) ≡ 1 * span (in_use l) = ap (λ (r : ℕ). r * span (in_use l)) c.if-l-eq1.true in
    (c.requires.0, omega (arith, c.if-l-eq1.true), omega (arith, c.requires.1, size-repeats (in_use l) 0 l.repeat, one))

pub returns-then-span-eq0 : goal.returns-then-span-eq0
returns-then-span-eq0 c =
    let l = c.args.l in
    let none : total l ≡ 0 = total_none l (omega (arith, c.span-span.ensures.0, c.if-span-eq0.true)) in
    subst (λ (x : ℕ). Walked l x c.end_cursor.result) (omega (arith, c.requires.1)) c.end_cursor.ensures

pub returns : goal.returns
returns c =
    let a = c.args in
    let p = c.span-span in
    let all : a.l.repeat * p.result ≤ a.offset.0 / p.result * p.result = mul-le-mul_right p.result (omega (arith, c.if-r-l.false)) in
    let same : a.l.repeat * p.result ≡ a.l.repeat * span (in_use a.l) = ap (λ (k : ℕ). a.l.repeat * k) p.ensures.0 in
    subst (λ (x : ℕ). Walked a.l x c.end_cursor-2.result)
    (omega (arith, c.requires.1, all, same, size-repeats (in_use a.l) 0 a.l.repeat, div-add-mod' a.offset.0 p.result)) c.end_cursor-2.ensures
