-- What is carried while a part is folded: six words, and at its head the bytes that follow those that they stand for.
--
--   value x           the polynomial of six words
--   Heads start s h   the words of h may stand for the register and the first bytes of s
use Rattle.std.specs.Prelude.{◌≡◌, List, [], ◌∷◌, ℕ, ◌≤◌, length, drop}
use Rattle.crc.specs.declared.six_words.SixWords.{SixWords}
use Rattle.crc.specs.declared.Head.{Head}
use Rattle.crc.specs.Crc.{crc}
use Rattle.crc.specs.Division.{followed}
use Rattle.crc.specs.Inner.Folding.{with_rest, crc_of}

-- The polynomial of six words, a the highest.
abbrev pub value : (x : SixWords) → ℕ
value x = followed 64 0 (x.a ∷ x.b ∷ x.c ∷ x.d ∷ x.e ∷ x.f ∷ [])

-- The words of the head, followed by the other bytes, lead to the register after s.
pub record Heads (start : ℕ) (s : List ℕ) (h : Head) : Type 0 where
  pub taken : ℕ
  pub within : taken ≤ length s
  pub after : h.rest.now ≡ drop taken s
  pub leads : crc_of (with_rest (value h.words) s taken) ≡ crc start s
