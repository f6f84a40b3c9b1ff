-- Bytes moved between a list and the places of a layout.
--
--   gathered memory places           the bytes at these memory offsets
--   scattered memory places bytes    memory after these bytes were stored at these offsets
--   Within n pieces                  every piece ends within n bytes of memory
--   Placed l n                       a layout whose pieces lie in a memory of n bytes
--   Distinct places                  no two offsets are the same
--   Below n places                   every offset is below n
use Rattle.std.specs.Prelude.{◌≡◌, List, [], ◌∷◌, map, ℕ, ◌≤◌, ◌<◌, length, get_or, set}
use Rattle.layout.specs.declared.Layout.{Layout}
use Rattle.layout.specs.Pieces.{entries_max, Piece, piece_end, pieces}

-- The bytes at these memory offsets.
unfoldable pub gathered : (memory places : List ℕ) → List ℕ
gathered memory ps = map (λ (p : ℕ). get_or memory p 0) ps

-- Memory after these bytes were stored at these offsets, in order, until either list ends.
unfoldable pub scattered : (memory places bytes : List ℕ) → List ℕ
scattered memory [] bytes = memory
scattered memory (p ∷ ps) [] = memory
scattered memory (p ∷ ps) (b ∷ bytes) = scattered (set memory p b) ps bytes

-- Every piece ends within n bytes of memory.
unfoldable pub Within : (n : ℕ) (ps : List Piece) → Type 0
Within n [] = Unit {0}
Within n (p ∷ ps) = (piece_end p ≤ n) × Within n ps

-- What walking and scattering need of a layout over a memory of n bytes: its pieces lie inside. They may overlap.
pub record Placed (l : Layout) (n : ℕ) : Type 0 where
  pub used : l.used ≤ entries_max
  pub within : Within n (pieces l)

-- No two elements are the same.
abbrev pub Distinct : (ps : List ℕ) → Type 0
Distinct ps = (i j : ℕ) → i < length ps → j < length ps → get_or ps i 0 ≡ get_or ps j 0 → i ≡ j

-- Every element is below n.
abbrev pub Below : (n : ℕ) (ps : List ℕ) → Type 0
Below n ps = (i : ℕ) → i < length ps → get_or ps i 0 < n
