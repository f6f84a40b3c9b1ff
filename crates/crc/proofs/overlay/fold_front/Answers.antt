use mathlib.Core.Path.{◌≡◌, subst}
use Prim.Native.Nat.{ℕ}
use native.Mathlib.Omega.{arith}
use Rattle.crc.specs.Inner.Carried.{value}
use Rattle.crc.specs.Inner.Overlays.{Overlays}
use Rattle.crc.proofs.Overlaying.{overlay_ended}
use Rattle.crc.proofs.overlay.fold_front.Goals as goal

pub returns : goal.returns
returns c =
    let l = c.loop-j in
    let s = c.args.s.now in
    let v = c.args.v in
    let o = l.o in
    let e : l.j ≡ 240 = omega arith in
    let h = subst (λ (n : ℕ). Overlays s v n o) e l.invariant.2 in
    overlay_ended s v (value o.sum) (value c.add_two_words.result) o.last o.before c.requires h.sum
    h.last h.before c.add_two_words.ensures
