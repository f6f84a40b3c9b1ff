-- The byte's place lies in the memory that the layout lies in.
use Rattle.std.proofs.Common.{rules, arith}
use Rattle.layout.proofs.CursorLaws.{walked_left}
use Rattle.vectors.proofs.Fits.{placed}
use Rattle.vectors.proofs.sound.SoundLayout.byte_at.Goals as goal

pub next_piece_if_spent-cursor-requires : goal.next_piece_if_spent-cursor-requires
next_piece_if_spent-cursor-requires c = let ahead = walked_left _ _ _ c.walk.ensures in search (rules, placed)

pub bounds-memory-number : goal.bounds-memory-number
bounds-memory-number c = let inside = c.next_piece_if_spent-cursor.ensures.stands.inside 1044 (placed _ _ (omega arith) (search rules)) in omega arith
