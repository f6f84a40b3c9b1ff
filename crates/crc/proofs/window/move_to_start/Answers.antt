use mathlib.Core.Path.{◌≡◌, ap, ◌∙◌}
use Prim.Native.Nat.{◌+◌, ◌-◌}
use native.Mathlib.Omega.{arith}
use lib.ListN.{take, drop, length-drop}
use lib.Seq.{paste}
use Rattle.std.proofs.lemmas.List.Edits.{take-paste}
use Rattle.crc.proofs.window.move_to_start.Goals as goal

pub returns : goal.returns
returns c =
    let o = c.args.o.now in
    let n = c.args.n in
    let h = c.copy_within.ensures in
    let e : n + 369 - n ≡ 369 = omega arith in
    let l = length-drop n o in
    record {
      long = h.len;
      there =
          ap (take 369) (h.after ∙ ap (paste o 0 (drop n o)) e)
          ∙ take-paste o 0 (drop n o) 369 (omega arith) (omega (arith, l, c.told-o, c.requires));
    }
