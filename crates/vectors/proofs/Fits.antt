-- What holds of a layout that is sound over a memory of 1,044 bytes: its total may be taken, and it lies in each memory
-- that is as long.
use mathlib.Core.Path.{◌≡◌}
use Prim.Native.Nat.{ℕ, ◌*◌, ◌≤◌}
use Rattle.layout.specs.declared.Layout.{Layout}
use Rattle.std.specs.Prelude.{Ok}
use Rattle.layout.specs.Answers.{verdict_on}
use Rattle.layout.specs.Moves.{Placed}
use Rattle.layout.proofs.AnswerLaws.{sound_shaped, sound_placed}
use Rattle.layout.proofs.PieceLaws.{placed_more}

pub few : (l : Layout) → verdict_on l 1044 ≡ Ok tt → (l.used ≤ 16) × (l.used * l.repeat ≤ 1024)
few l sound = let s = sound_shaped l 1044 sound in (s.used, s.few)

pub placed : (l : Layout) (n : ℕ) → 1044 ≤ n → verdict_on l 1044 ≡ Ok tt → Placed l n
placed l n h sound = placed_more h (sound_placed l 1044 sound)
