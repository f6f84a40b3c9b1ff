-- Bytes of the data, read as one number.
use mathlib.Core.Path.{◌≡◌, refl, sym, ap, ◌∙◌}
use mathlib.Core.List.{List, [], ◌∷◌, ◌++◌}
use Prim.Native.Nat.{ℕ, ◌+◌, ◌-◌, ◌*◌, ◌^◌, ◌≤◌, ◌<◌}
use native.Mathlib.Nat.{zero-add, add-zero}
use native.Mathlib.Omega.{arith}
use lib.ListN.{length, get_or, take, drop, length-drop}
use lib.Seq.{get_or-take, get_or-drop, drop-cons, drop-drop, take-add, take_all, length-take-le}
use Rattle.std.specs.Int.{w64, from_be_bytes}
use lib.Bits.{bit_xor, xor_comm, xor_shifted, xor_zero_r}
use Rattle.crc.specs.Division.{followed}
use Rattle.crc.specs.Inner.Folding.{bytes_at}
use Rattle.crc.proofs.Pieces.{followed_from, followed-append}

-- The n bytes at i, after the polynomial a.
pub read_part : (s : List ℕ) (i n a : ℕ) → i + n ≤ length s
    → followed 8 a (take n (drop i s)) ≡ bit_xor (bytes_at s i n) (a * 2 ^ (8 * n))
read_part s i n a h =
    let g : length (drop i s) ≡ length s - i = length-drop i s in
    let l : n ≤ length (drop i s) = omega arith in
    followed_from 8 a (take n (drop i s))
    ∙ ap (λ (m : ℕ). bit_xor (a * 2 ^ (8 * m)) (bytes_at s i n)) (length-take-le n (drop i s) l)
    ∙ xor_comm (a * 2 ^ (8 * n)) (bytes_at s i n)

-- The m + n bytes from i on are m bytes, and then the n bytes at j.
pub read_more : (s : List ℕ) (i m j n a : ℕ) → i + m ≡ j → j + n ≤ length s
    → bit_xor (bytes_at s j n) (followed 8 a (take m (drop i s)) * 2 ^ (8 * n)) ≡ followed 8 a (take (m + n) (drop i s))
read_more s i m j n a e h =
    sym
    (ap (followed 8 a)
    (take-add m n (drop i s)
    ∙ ap (λ (l : List ℕ). take m (drop i s) ++ take n l) (drop-drop m i s ∙ ap (λ (k : ℕ). drop k s) e))
    ∙ followed-append 8 a (take m (drop i s)) (take n (drop j s))
    ∙ read_part s j n (followed 8 a (take m (drop i s))) h)

-- One byte is itself.
pub read_one : (s : List ℕ) (i : ℕ) → i < length s → get_or s i 0 ≡ bytes_at s i 1
unfolding followed
read_one s i h = sym (ap (λ (l : List ℕ). followed 8 0 (take 1 l)) (drop-cons s i 0 h) ∙ xor_zero_r (get_or s i 0))

-- One more byte is a number's lowest.
byte_more : (s : List ℕ) (i n : ℕ) → i + n < length s → get_or s (i + n) 0 < 256
    → bytes_at s i (n + 1) ≡ bytes_at s i n * 256 + get_or s (i + n) 0
byte_more s i n h b =
    sym (read_more s i n (i + n) 1 0 refl (omega arith))
    ∙ ap (λ (x : ℕ). bit_xor x (bytes_at s i n * 256)) (sym (read_one s (i + n) h))
    ∙ xor_comm (get_or s (i + n) 0) (bytes_at s i n * 256)
    ∙ xor_shifted (bytes_at s i n) 8 (get_or s (i + n) 0) b

-- Three and five bytes, behind zeros, as std joins eight.
pub three_joined : (s : List ℕ) (i : ℕ) → i + 3 ≤ length s → ((k : ℕ) → get_or s k 0 < 256)
    → from_be_bytes w64 (0 ∷ 0 ∷ 0 ∷ 0 ∷ 0 ∷ get_or s i 0 ∷ get_or s (i + 1) 0 ∷ get_or s (i + 2) 0 ∷ [])
    ≡ bytes_at s i 3
three_joined s i h b =
    let p = read_one s i (omega arith) in
    let q = byte_more s i 1 (omega arith) (b (i + 1)) in
    let r = byte_more s i 2 (omega arith) (b (i + 2)) in
    omega (arith, p, q, r)

pub five_joined : (s : List ℕ) (i : ℕ) → i + 5 ≤ length s → ((k : ℕ) → get_or s k 0 < 256)
    → from_be_bytes w64
    (0 ∷ 0 ∷ 0 ∷ get_or s i 0 ∷ get_or s (i + 1) 0 ∷ get_or s (i + 2) 0 ∷ get_or s (i + 3) 0 ∷ get_or s (i + 4) 0 ∷ [])
    ≡ bytes_at s i 5
five_joined s i h b =
    let p = three_joined s i (omega arith) b in
    let q = byte_more s i 3 (omega arith) (b (i + 3)) in
    let r = byte_more s i 4 (omega arith) (b (i + 4)) in
    omega (arith, p, q, r)

-- Eight bytes, as std joins them.
word_at : (s bs : List ℕ) (i : ℕ) → i + 8 ≤ length s → ((k : ℕ) → get_or s k 0 < 256)
    → ((k : ℕ) → k < 8 → get_or bs k 0 ≡ get_or s (i + k) 0) → from_be_bytes w64 bs ≡ bytes_at s i 8
word_at s bs i h b e =
    let e₀ : get_or bs 0 0 ≡ get_or s i 0 = e 0 (omega arith) ∙ ap (λ (m : ℕ). get_or s m 0) (add-zero i) in
    let e₁ = e 1 (omega arith) in
    let e₂ = e 2 (omega arith) in
    let e₃ = e 3 (omega arith) in
    let e₄ = e 4 (omega arith) in
    let e₅ = e 5 (omega arith) in
    let e₆ = e 6 (omega arith) in
    let e₇ = e 7 (omega arith) in
    let p = five_joined s i (omega arith) b in
    let q = byte_more s i 5 (omega arith) (b (i + 5)) in
    let r = byte_more s i 6 (omega arith) (b (i + 6)) in
    let t = byte_more s i 7 (omega arith) (b (i + 7)) in
    omega (arith, e₀, e₁, e₂, e₃, e₄, e₅, e₆, e₇, p, q, r, t)

pub word_joined : (bs : List ℕ) → length bs ≡ 8 → ((k : ℕ) → get_or bs k 0 < 256)
    → from_be_bytes w64 bs ≡ followed 8 0 bs
word_joined bs h b =
    word_at bs bs 0 (omega arith) b (λ k l. ap (λ (m : ℕ). get_or bs m 0) (sym (zero-add k)))
    ∙ ap (followed 8 0) (take_all 8 bs (omega arith))

-- Eight bytes within the data.
pub word_read : (s bs : List ℕ) (i : ℕ) → i + 8 ≤ length s → ((k : ℕ) → get_or s k 0 < 256)
    → bs ≡ take (i + 8 - i) (drop i s) → from_be_bytes w64 bs ≡ bytes_at s i 8
word_read s bs i h b e =
    word_at s bs i h b
    (λ k l.
    ap (λ (p : List ℕ). get_or p k 0) e
    ∙ get_or-take (i + 8 - i) (drop i s) k 0 (omega arith)
    ∙ get_or-drop i s k 0)

-- The bytes from i on, as a slice of their own.
pub rest_of : (s : List ℕ) (i : ℕ) → take (length s - i) (drop i s) ≡ drop i s
rest_of s i = take_all (length s - i) (drop i s) (simp length-drop (omega arith))
