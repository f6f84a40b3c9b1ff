-- The fifth number of check: the set of differing checked bytes of the reported tag, as a mask (02, request 6).
-- `BadBytesOf` in `Errors` says what it is after every accepted transfer from an empty slot. Here are examples, first
-- what the request is about: "Support can't tell a half-masked application tag from a wrong one."
--
--   checked check_mask field last     what receive and check return for A's wire, changed
--   DifferingExamples                the numbers for five fields that differ from A's
use Rattle.std.specs.Prelude.{◌≡◌, List, [], ◌∷◌, ℕ}
use Rattle.audit.specs.Cases.{domain_a, wire, received}

-- What receive and check return for case A's wire, with this field after its first block and this last byte of the
-- second. In A the field is 8B B7, 12 34, FF FF FF FF and the byte is 00.
abbrev pub checked : (check_mask : ℕ) (field : List ℕ) (last : ℕ) → List ℕ
checked check_mask field last = received domain_a check_mask (wire field last)

-- The last number of each is the mask of the differing bytes.
pub record DifferingExamples : Type 0 where
  -- The application tag 56 78 differs from 12 34 in both bytes, and both are checked.
  pub wrong_tag :
      checked 0xFF (0x8B ∷ 0xB7 ∷ 0x56 ∷ 0x78 ∷ 0xFF ∷ 0xFF ∷ 0xFF ∷ 0xFF ∷ []) 0
      ≡ 0 ∷ 32 ∷ 16 ∷ 3 ∷ 0x1234 ∷ 0x5678 ∷ 0 ∷ 0x30 ∷ []
  -- The application tag 56 78 differs from 12 34 in both bytes, and check mask 0xDF leaves out the first. All numbers
  -- but the last are as if both were checked.
  pub half_masked :
      checked 0xDF (0x8B ∷ 0xB7 ∷ 0x56 ∷ 0x78 ∷ 0xFF ∷ 0xFF ∷ 0xFF ∷ 0xFF ∷ []) 0
      ≡ 0 ∷ 32 ∷ 16 ∷ 3 ∷ 0x1234 ∷ 0x5678 ∷ 0 ∷ 0x10 ∷ []
  -- The reference tag differs in its second and fourth byte.
  pub two_of_four :
      checked 0xFF (0x8B ∷ 0xB7 ∷ 0x12 ∷ 0x34 ∷ 0xFF ∷ 0 ∷ 0xFF ∷ 0 ∷ []) 0
      ≡ 0 ∷ 32 ∷ 16 ∷ 2 ∷ 0xFFFFFFFF ∷ 0xFF00FF00 ∷ 0 ∷ 0x05 ∷ []
  -- All three tags differ. The guard is reported, and it differs in its second byte; the other tags add nothing.
  pub all_three :
      checked 0xFF (0x8B ∷ 0xB8 ∷ 0x56 ∷ 0x78 ∷ 0 ∷ 0 ∷ 0 ∷ 0 ∷ []) 0
      ≡ 0 ∷ 32 ∷ 16 ∷ 1 ∷ 0x8BB7 ∷ 0x8BB8 ∷ 0 ∷ 0x40 ∷ []
  -- Both blocks are bad: the first in its application tag, the second in its guard, as in case C. The first is
  -- reported, and the second adds nothing.
  pub two_blocks :
      checked 0xFF (0x8B ∷ 0xB7 ∷ 0x13 ∷ 0x34 ∷ 0xFF ∷ 0xFF ∷ 0xFF ∷ 0xFF ∷ []) 2
      ≡ 0 ∷ 32 ∷ 16 ∷ 3 ∷ 0x1234 ∷ 0x1334 ∷ 0 ∷ 0x20 ∷ []
