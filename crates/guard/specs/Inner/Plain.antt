-- How the code computes a checksum: a plain sum first, whose carries are added at the end. `proofs/Laws.antt` shows
-- that this is what `◌⊕◌` gives.
--
--   plain odd bytes            the plain sum of the bytes, each by its place
--   Rounds s r                 r is s with all its carries added
--   Sums s r                   r is the sum s but for carries
--   word two                   two bytes as one number, high byte first
--   little_endian bytes at      four bytes as one number, low byte first
--   two_added eight            eight bytes as two such numbers, added
--   Partly s all rest          the loop's invariant
use Rattle.std.specs.Prelude.{◌≡◌, Bool, false, not, List, [], ◌∷◌, ℕ, ◌+◌, ◌*◌, ◌≤◌, get_or}
use Rattle.guard.specs.Guards.{weighed}

-- The plain sum of the bytes, each by its place, from an even or odd place on.
unfoldable pub plain : (odd : Bool) (bytes : List ℕ) → ℕ
plain odd [] = 0
plain odd (b ∷ bytes) = weighed odd b + plain (not odd) bytes

-- r is s with all its carries added: each takes 65,536 away and adds 1, and none makes 0 of more than 0.
pub record Rounds (s r : ℕ) : Type 0 where
  pub turns : ℕ
  pub sum : s ≡ r + turns * 65535
  pub small : r ≤ 65535
  pub nothing : r ≡ 0 → s ≡ 0

-- r is the sum s but for carries: it has the same value as s once all carries are added.
abbrev pub Sums : (s r : ℕ) → Type 0
Sums s r = (v : ℕ) → Rounds r v → Rounds s v

-- Two bytes as one number, high byte first.
abbrev pub word : (two : List ℕ) → ℕ
word two = get_or two 0 0 * 256 + get_or two 1 0

-- The four bytes from `at` on as one number, low byte first.
abbrev pub little_endian : (bytes : List ℕ) (at : ℕ) → ℕ
little_endian bytes at =
    get_or bytes at 0 + get_or bytes (at + 1) 0 * 256 + get_or bytes (at + 2) 0 * 65536 + get_or bytes (at + 3) 0 * 16777216

-- Eight bytes as two numbers, each low byte first, added.
abbrev pub two_added : (eight : List ℕ) → ℕ
two_added eight = little_endian eight 0 + little_endian eight 4

-- While the words are summed: 256 times the sum so far plus the plain sum of the bytes left is s but for carries.
pub record Partly (s all : ℕ) (rest : List ℕ) : Type 0 where
  pub extra : ℕ
  pub sum : all * 256 + plain false rest ≡ s + extra * 65535
  pub nothing : s ≡ 0 → extra ≡ 0
