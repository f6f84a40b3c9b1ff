-- The first 512 bytes of a part are a front of 243 bytes and a rear of 269. Since x^2152 has the remainder of
-- x^128 + x^64 + 1, and 269 bytes are 2152 bits, the front may be added to the rear three times: as it is, a word
-- higher, and two words higher.
--
--   front s v m         the first 3 + m bytes of s, where v stands for the first three
--   rear s m            the first m bytes of the rear
--   overlay s v j       the rear plus the three fronts, after j bytes of the loop
--   Overlays s v j o    o holds that sum, and the last two words of the front
--   Extends s j n o r   if o holds the sum after j bytes, r holds it after n more
use Rattle.std.specs.Prelude.{◌≡◌, List, ℕ, ◌+◌, take, drop}
use Rattle.std.specs.Int.Bits.{bit_xor}
use Rattle.crc.specs.declared.overlay.Overlaid.{Overlaid}
use Rattle.crc.specs.Division.{followed}
use Rattle.crc.specs.Inner.Remainders.{Same}
use Rattle.crc.specs.Inner.Folding.{bytes_at}
use Rattle.crc.specs.Inner.Carried.{value}

-- The first 3 + m bytes of s. The number v stands for the first three, with the register.
unfoldable pub front : (s : List ℕ) (v m : ℕ) → ℕ
front s v m = followed 8 v (take m (drop 3 s))

-- The first m bytes of the rear.
abbrev pub rear : (s : List ℕ) (m : ℕ) → ℕ
rear s m = bytes_at s 243 m

-- After the loop has added j bytes of each, the sum holds the first j + 29 bytes of the rear, and the first 3 + j + 16,
-- 3 + j + 8 and 3 + j bytes of the front.
abbrev pub overlay : (s : List ℕ) (v j : ℕ) → ℕ
overlay s v j = bit_xor (rear s (j + 29)) (bit_xor (front s v (j + 16)) (bit_xor (front s v (j + 8)) (front s v j)))

-- The sum after j bytes, and the last two words of the front: `last` is added at the next two words, `before` at the
-- next one.
pub record Overlays (s : List ℕ) (v j : ℕ) (o : Overlaid) : Type 0 where
  pub sum : Same (value o.sum) (overlay s v j)
  pub last : o.last ≡ bytes_at s (j + 11) 8
  pub before : o.before ≡ bytes_at s (j + 3) 8

-- Where o holds the sum after j bytes, r holds it after n more, whatever stands for the first three.
abbrev pub Extends : (s : List ℕ) (j n : ℕ) (o r : Overlaid) → Type 0
Extends s j n o r = (v : ℕ) → Overlays s v j o → Overlays s v (j + n) r
