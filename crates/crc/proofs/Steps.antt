-- Laws of one more word or byte: words that carry the data, and the window on its way to the start. The code goes by
-- larger steps, so no proof of it cites them.
use Prim.Native.Nat.{ℕ, ◌%◌, ◌*◌, ◌+◌, ◌-◌, ◌<◌, ◌^◌, ◌≤◌}
use Rattle.crc.proofs.Folding.{word_same}
use Rattle.crc.proofs.Pieces.{followed-append, followed_same}
use Rattle.crc.proofs.Reading.{read_more, read_one, read_part}
use Rattle.crc.proofs.Remainders.{same, then}
use Rattle.crc.specs.Division.{followed}
use Rattle.crc.specs.Inner.Folding.{bytes_at, with_rest, with_word}
use Rattle.crc.specs.Inner.Remainders.{Same}
use lib.Bits.{bit_xor, xor_lt}
use lib.ListN.{drop, get_or, length, length-drop, set, take, take-append-drop}
use lib.Pow.{pow_mono, shl_lt}
use lib.Seq.{drop-drop, drop-set-lt, get_or-drop, take-suc, take-suc-set}
use mathlib.Core.List.{List, [], ◌++◌, ◌∷◌}
use mathlib.Core.Path.{ap, ap₂, refl, sym, ◌∙◌, ◌≡◌}
use native.Mathlib.Nat.{add_comm, lt_of_lt_of_le, mod-eq_of_lt, zero-add}
use native.Mathlib.Numerals.{add-one}
use native.Mathlib.Omega.{arith}

-- All bytes from i on are the n bytes there, and then those from j on.
pub read_next : (s : List ℕ) (i n j a : ℕ) → i + n ≡ j → j ≤ length s
    → with_rest (bit_xor (bytes_at s i n) (a * 2 ^ (8 * n))) s j ≡ with_rest a s i
read_next s i n j a e h =
    sym
    (ap (followed 8 a) (sym (take-append-drop n (drop i s)))
    ∙ followed-append 8 a (take n (drop i s)) (drop n (drop i s))
    ∙ ap₂ (followed 8) (read_part s i n a (omega arith)) (drop-drop n i s ∙ ap (λ (k : ℕ). drop k s) e))

-- One byte is appended to k bytes. Nothing is shifted out of the 64 bits.
pub append_byte : (s : List ℕ) (i k w r : ℕ) → k < 8 → i + k < length s → get_or s (i + k) 0 < 256
    → w ≡ bytes_at s i k → w < 2 ^ (8 * k) → r ≡ bit_xor (get_or s (i + k) 0) (w * 256 % 2 ^ 64)
    → (r ≡ bytes_at s i (k + 1)) × (r < 2 ^ (8 * (k + 1)))
append_byte s i k w r hk h hb p l e = (
  whole
      ∙ ap₂ (λ (x y : ℕ). bit_xor x (y * 256)) (read_one s (i + k) h) p
      ∙ read_more s i k (i + k) 1 0 refl (omega arith),
  rw (whole, bits) (xor_lt (8 * k + 8) (get_or s (i + k) 0) (w * 256) small (shl_lt (8 * k) 8 l)),
)
  where
    bits : 8 * (k + 1) ≡ 8 * k + 8
    bits = omega arith

    whole : r ≡ bit_xor (get_or s (i + k) 0) (w * 256)
    whole =
        e
        ∙ ap (bit_xor (get_or s (i + k) 0))
        (mod-eq_of_lt (lt_of_lt_of_le (shl_lt (8 * k) 8 l) (pow_mono {i = 8 * k + 8} {j = 64} (omega arith))))

    small : get_or s (i + k) 0 < 2 ^ (8 * k + 8)
    small = lt_of_lt_of_le hb (pow_mono {i = 8} {j = 8 * k + 8} (omega arith))

-- Words with the remainder of x and then the word at i may stand for x and that word.
pub word_entered : (s : List ℕ) (i j x w : ℕ) {y : ℕ} → i + 8 ≡ j → j ≤ length s → w ≡ bytes_at s i 8
    → Same y (with_word x w) → Same (with_rest y s j) (with_rest x s i)
word_entered s i j x w e h q p =
    then (followed_same 8 (drop j s) p)
    (same (ap (λ (v : ℕ). with_rest (with_word x v) s j) q ∙ read_next s i 8 j x e h))

-- One more byte of the window is at the start, and the bytes after it are as they were.
pub byte_moved : (o o₀ : List ℕ) (i n : ℕ) → i < length o → n + i < length o₀ → take i o ≡ take i (drop n o₀)
    → drop i o ≡ drop i o₀
    → (take (i + 1) (set o i (get_or o (i + n) 0)) ≡ take (i + 1) (drop n o₀))
    × (drop (i + 1) (set o i (get_or o (i + n) 0)) ≡ drop (i + 1) o₀)
byte_moved o o₀ i n h k e f = (
  rw (add-one, take-suc-set o i (get_or o (i + n) 0) h, take-suc (drop n o₀) i 0 long)
      (ap₂ (λ (l : List ℕ) (x : ℕ). l ++ x ∷ []) e byte),
  drop-set-lt (i + 1) o i (get_or o (i + n) 0) (omega arith)
      ∙ sym (drop-drop 1 i o)
      ∙ ap (drop 1) f
      ∙ drop-drop 1 i o₀,
)
  where
    long : i < length (drop n o₀)
    long = let g : length (drop n o₀) ≡ length o₀ - n = length-drop n o₀ in omega arith

    byte : get_or o (i + n) 0 ≡ get_or (drop n o₀) i 0
    byte =
        sym (get_or-drop i o n 0)
        ∙ ap (λ (l : List ℕ). get_or l n 0) f
        ∙ get_or-drop i o₀ n 0
        ∙ ap (λ (m : ℕ). get_or o₀ m 0) (add_comm i n)
        ∙ sym (get_or-drop n o₀ i 0)

-- The next word of the window is appended.
pub window_word : (s : List ℕ) (i x w : ℕ) {y : ℕ} → i + 8 ≤ length s → w ≡ bytes_at s i 8 → Same x (bytes_at s 0 i)
    → Same y (with_word x w) → Same y (bytes_at s 0 (i + 8))
window_word s i x w h e p q =
    then q
    (then (word_same w p)
    (same (ap (with_word (bytes_at s 0 i)) e ∙ read_more s 0 i i 8 0 (zero-add i) h)))
