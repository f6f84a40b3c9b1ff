-- The next piece is in the same repeat, or it is the first of the next repeat.
use Rattle.std.proofs.Common.{◌≡◌, ℕ, zero, suc, ◌+◌, ◌*◌, ◌<◌, arith, add-one}
use native.Mathlib.Nat.{suc-mul, mul-zero, lt_of_mul-lt-mul_right}
use Rattle.layout.specs.Inner.Cursors.{next_piece}
use Rattle.layout.proofs.CursorLaws.{how_many}
use Rattle.layout.proofs.cursor.next_piece.Goals as goal

some : (u r : ℕ) {k : ℕ} → k < r * u → 0 < u
some zero r h = absurd (omega (arith, mul-zero r))
some (suc u) r h = omega arith

pub piece_cursor-requires : goal.piece_cursor-requires
piece_cursor-requires c =
    let a = c.args in
    (c.requires.0, lt_of_mul-lt-mul_right a.l.used {m = a.c.repeat} {n = a.l.repeat} (omega (arith, c.requires.2, how_many a.l c.requires.1.used)), c.if-i-l.true)

pub piece_cursor-requires-2 : goal.piece_cursor-requires-2
piece_cursor-requires-2 c =
    let a = c.args in
    -- After the last entry of a repeat, the next piece is the first of the next repeat.
    let behind : (a.c.repeat + 1) * a.l.used + 0 ≡ next_piece a.l a.c = rw add-one (omega (arith, suc-mul a.c.repeat a.l.used, c.requires.1.entry, c.if-i-l.false)) in
    let most : (a.c.repeat + 1) * a.l.used < a.l.repeat * a.l.used = omega (arith, behind, c.requires.2, how_many a.l c.requires.1.used) in
    let more = lt_of_mul-lt-mul_right a.l.used {m = a.c.repeat + 1} {n = a.l.repeat} most in
    (c.requires.0, omega (arith, more), some a.l.used a.l.repeat most)
