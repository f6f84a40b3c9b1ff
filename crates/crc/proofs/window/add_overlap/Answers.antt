use mathlib.Core.Path.{refl, ◌∙◌}
use Prim.Native.Nat.{◌+◌}
use native.Mathlib.Omega.{arith}
use borrow.Author.Rules.{rules}
use lib.Seq.{take-set-le}
use Rattle.crc.proofs.Windowing.{overlap_none, overlap_added, overlap_all}
use Rattle.crc.proofs.window.add_overlap.Goals as goal

pub loop-i-init : goal.loop-i-init
loop-i-init c = (refl, refl, overlap_none c.args.o.now)

pub loop-i-preserved : goal.loop-i-preserved
loop-i-preserved c =
    let o = c.args.o.now in
    let l = c.loop-i in
    let long = l.invariant.0 in
    let kept = l.invariant.1 in (
      search rules,
      take-set-le 338 l.o (l.i + 338) _ (omega arith) ∙ kept,
      overlap_added l.o o l.i (omega arith) (omega (arith, long, c.told-o)) (omega (arith, c.told-o)) kept l.invariant.2,
    )

pub returns : goal.returns
returns c =
    let l = c.loop-i in
    overlap_all l.o c.args.o.now l.i (omega arith) l.invariant.2
