-- Six words are carried from word to word.
use mathlib.Core.Path.{◌≡◌, refl, sym, ap, ap₂, ◌∙◌}
use mathlib.Core.List.{List, [], ◌∷◌, ◌++◌}
use Prim.Native.Nat.{ℕ, zero, suc, ◌+◌, ◌*◌, ◌/◌, ◌%◌, ◌^◌, ◌≤◌, ◌<◌}
use native.Mathlib.Nat.{zero-mul}
use native.Mathlib.Omega.{arith}
use lib.ListN.{length, get_or, take, drop, drop_of_length-le, take-append-drop}
use lib.Seq.{drop-length, take-add, take_all}
use Rattle.std.specs.Int.{w64, from_be_bytes}
use Rattle.std.specs.List.{concat}
use Rattle.std.specs.Simd.{first_chunks}
use Rattle.std.proofs.lemmas.List.{drop_more}
use lib.Bits.{bit_xor, xor_comm, xor_lt, xor_zero_r}
use Rattle.crc.specs.Crc.{crc}
use Rattle.crc.specs.Division.{followed}
use Rattle.crc.specs.Inner.Remainders.{rem, rem_bits, reduce, Same}
use Rattle.crc.specs.Inner.Folding.{times, times_low, times_high, with_word, with_rest, with_register, crc_of}
use Rattle.crc.proofs.Xor.{xor_assoc, xor_past, xor_scale, xor_parts, shift_shift}
use Rattle.crc.proofs.Remainders.{same, back, then, same_left, same_right}
use Rattle.crc.proofs.Folding.{fold, with_sum, product_in_words}
use Rattle.crc.proofs.Pieces.{followed_from, followed-first, followed-append, followed_same}
use Rattle.crc.proofs.Registers.{crc_of_same, crc_of_register}
use Rattle.crc.proofs.Reading.{word_joined}

-- ---- chunks of the data

-- Chunk i is entered, and the others are left.
pub chunk_entered : (cs : List (List ℕ)) (i x : ℕ) {y n : ℕ} → i < length cs → Same y (followed 8 x (get_or cs i []))
    → Same (followed 8 x (concat (drop i cs))) n → Same (followed 8 y (concat (drop (i + 1) cs))) n
chunk_entered cs i x h p q =
    then (followed_same 8 (concat (drop (i + 1) cs)) p)
    (then
    (same
    (sym
    (ap (λ (l : List (List ℕ)). followed 8 x (concat l)) (drop_more cs i [] h)
    ∙ followed-append 8 x (get_or cs i []) (concat (drop (i + 1) cs)))))
    q)

-- No chunk is left.
pub chunks_entered : (cs : List (List ℕ)) (i x : ℕ) {n : ℕ} → length cs ≤ i → Same (followed 8 x (concat (drop i cs))) n
    → Same x n
unfolding followed
chunks_entered cs i x h q =
    then (same (ap (λ (l : List (List ℕ)). followed 8 x (concat l)) (sym (drop_of_length-le cs h)))) q

-- The first k chunks of n bytes are the first bytes.
chunks_joined : (n k : ℕ) (s : List ℕ) → concat (first_chunks n k s) ≡ take (k * n) s
chunks_joined n zero s = ap (λ (m : ℕ). take m s) (sym (zero-mul n))
chunks_joined n (suc k) s =
    ap (λ (l : List ℕ). take n s ++ l) (chunks_joined n k (drop n s))
    ∙ sym (take-add n (k * n) s)
    ∙ ap (λ (m : ℕ). take m s) (omega arith)

-- Chunks that leave no byte are all of s.
pub chunks_whole : (n : ℕ) (s : List ℕ) (cs : List (List ℕ)) → cs ≡ first_chunks n (length s / n) s
    → length s / n * n ≡ length s → concat cs ≡ s
chunks_whole n s cs e h =
    ap concat e ∙ chunks_joined n (length s / n) s ∙ take_all (length s / n * n) s (omega (arith, h))

-- The bytes that fill no chunk follow those that do.
pub chunks_and_rest : (n x : ℕ) (s rest : List ℕ) (cs : List (List ℕ)) {y : ℕ} → cs ≡ first_chunks n (length s / n) s
    → rest ≡ drop (length s / n * n) s → Same y (followed 8 x (concat cs))
    → crc_of (followed 8 y rest) ≡ crc_of (followed 8 x s)
chunks_and_rest n x s rest cs e r q =
    crc_of_same (followed_same 8 rest q)
    ∙ ap crc_of
    (ap₂ (λ (a b : List ℕ). followed 8 (followed 8 x a) b) (ap concat e ∙ chunks_joined n (length s / n) s) r
    ∙ sym (followed-append 8 x (take m s) (drop m s))
    ∙ ap (followed 8 x) (take-append-drop m s))
  where
    m : ℕ
    m = length s / n * n

-- ---- a word more: x^384 has the remainder of x^46 + x^15

fold_384 : (a : ℕ) → Same (a * 2 ^ 384) (with_word (times_high 46 (15 ∷ []) a) (times_low 46 (15 ∷ []) a))
unfolding rem rem_bits reduce
fold_384 a =
    then (fold 384 46 (15 ∷ []) refl a) (same (product_in_words 46 (15 ∷ []) a (omega arith, omega arith)))

-- The polynomial q x^64 + p is added to the two lowest words.
pub words_added : (a b c d e f q p : ℕ)
    → followed 64 0 (a ∷ b ∷ c ∷ d ∷ bit_xor e q ∷ bit_xor f p ∷ [])
    ≡ bit_xor (followed 64 0 (a ∷ b ∷ c ∷ d ∷ e ∷ f ∷ [])) (with_word q p)
unfolding followed
words_added a b c d e f q p =
    ap (λ (x : ℕ). with_word x (bit_xor f p)) (xor_past e q (four * 2 ^ 64)) ∙ with_sum (with_word four e) q f p
  where
    four : ℕ
    four = followed 64 0 (a ∷ b ∷ c ∷ d ∷ [])

-- The word a leaves at the top. Its product with x^46 + x^15 is added to the two lowest words.
pub word_appended : (a b c d e f w : ℕ)
    → Same
    (followed 64 0
    (b ∷ c ∷ d ∷ e ∷ bit_xor f (times_high 46 (15 ∷ []) a) ∷ bit_xor w (times_low 46 (15 ∷ []) a) ∷ []))
    (with_word (followed 64 0 (a ∷ b ∷ c ∷ d ∷ e ∷ f ∷ [])) w)
unfolding followed
word_appended a b c d e f w =
    then (same (words_added b c d e f w (times_high 46 (15 ∷ []) a) (times_low 46 (15 ∷ []) a)))
    (then (same_right (with_word rest w) (back (fold_384 a))) (same (sym top)))
  where
    rest : ℕ
    rest = followed 64 0 (b ∷ c ∷ d ∷ e ∷ f ∷ [])

    top : with_word (followed 64 0 (a ∷ b ∷ c ∷ d ∷ e ∷ f ∷ [])) w ≡ bit_xor (with_word rest w) (a * 2 ^ 384)
    top =
        ap (λ (x : ℕ). with_word x w)
        (followed-first 64 a (b ∷ c ∷ d ∷ e ∷ f ∷ []) ∙ xor_comm (a * 2 ^ 320) rest)
        ∙ ap (bit_xor w) (xor_scale 64 rest (a * 2 ^ 320) ∙ ap (bit_xor (rest * 2 ^ 64)) (shift_shift a 320 64))
        ∙ sym (xor_assoc w (rest * 2 ^ 64) (a * 2 ^ 384))

-- Words with the remainder of x and then a word have that of x and the word's bytes.
pub bytes_appended : (x w : ℕ) (bs : List ℕ) {y : ℕ} → length bs ≡ 8 → ((k : ℕ) → get_or bs k 0 < 256)
    → w ≡ from_be_bytes w64 bs → Same y (with_word x w) → Same y (followed 8 x bs)
bytes_appended x w bs h b e p =
    then p
    (same
    (sym
    (followed_from 8 x bs
    ∙ xor_comm (x * 2 ^ (8 * length bs)) (followed 8 0 bs)
    ∙ ap₂ (λ (m k : ℕ). bit_xor m (x * 2 ^ (8 * k))) (sym (e ∙ word_joined bs h b)) h)))

-- Five words of 0 before a word add nothing.
pub word_alone : (w : ℕ) → followed 64 0 (0 ∷ 0 ∷ 0 ∷ 0 ∷ 0 ∷ w ∷ []) ≡ w
unfolding followed
word_alone w = xor_zero_r w

-- ---- one word for two: x^64 has the remainder of x^28 + x^8 + x

fold_64 : (h : ℕ) → Same (h * 2 ^ 64) (with_word (times_high 28 (8 ∷ 1 ∷ []) h) (times_low 28 (8 ∷ 1 ∷ []) h))
unfolding rem rem_bits reduce
fold_64 h =
    then (fold 64 28 (8 ∷ 1 ∷ []) refl h)
    (same (product_in_words 28 (8 ∷ 1 ∷ []) h (omega arith, (omega arith, omega arith))))

-- The product of 28 bits fits into one word.
high_none : (n : ℕ) → n < 2 ^ 28 → times_high 28 (8 ∷ 1 ∷ []) n ≡ 0
high_none n h =
    let p : n / 2 ^ 36 ≡ 0 = omega arith in
    let q : n / 2 ^ 56 ≡ 0 = omega arith in
    let r : n / 2 ^ 63 ≡ 0 = omega arith in
    ap₂ bit_xor p (ap₂ bit_xor q r)

-- The high word of the product has 28 bits, so it can be folded once more.
pub words-joined : (h w : ℕ) → h < 2 ^ 64
    → Same (bit_xor w (bit_xor (times_low 28 (8 ∷ 1 ∷ []) (times_high 28 (8 ∷ 1 ∷ []) h)) (times_low 28 (8 ∷ 1 ∷ []) h)))
    (with_word h w)
words-joined h w l =
    same_right w
    (back
    (then (fold_64 h)
    (then (same (xor_comm low (high * 2 ^ 64))) (same_left low (then (fold_64 high) (same none))))))
  where
    high : ℕ
    high = times_high 28 (8 ∷ 1 ∷ []) h

    low : ℕ
    low = times_low 28 (8 ∷ 1 ∷ []) h

    small : high < 2 ^ 28
    small =
        xor_lt 28 (h / 2 ^ 36) (bit_xor (h / 2 ^ 56) (h / 2 ^ 63)) (omega arith)
        (xor_lt 28 (h / 2 ^ 56) (h / 2 ^ 63) (omega arith) (omega arith))

    none : with_word (times_high 28 (8 ∷ 1 ∷ []) high) (times_low 28 (8 ∷ 1 ∷ []) high) ≡ times_low 28 (8 ∷ 1 ∷ []) high
    none =
        ap (λ (x : ℕ). with_word x (times_low 28 (8 ∷ 1 ∷ []) high)) (high_none high small)
        ∙ xor_zero_r (times_low 28 (8 ∷ 1 ∷ []) high)

-- ---- five bytes for eight: x^39 has the remainder of x^15 + x^10 + x^7 + 1

fold_39 : (h : ℕ) → Same (h * 2 ^ 39) (times 15 (10 ∷ 7 ∷ 0 ∷ []) h)
unfolding rem rem_bits reduce
fold_39 h = fold 39 15 (10 ∷ 7 ∷ 0 ∷ []) refl h

-- The product of 25 bits fits into one word.
pub low_is_all : (h : ℕ) → h < 2 ^ 25 → times_low 15 (10 ∷ 7 ∷ 0 ∷ []) h ≡ times 15 (10 ∷ 7 ∷ 0 ∷ []) h
low_is_all h l =
    let p : h * 2 ^ 15 % 2 ^ 64 ≡ h * 2 ^ 15 = omega arith in
    let q : h * 2 ^ 10 % 2 ^ 64 ≡ h * 2 ^ 10 = omega arith in
    let r : h * 2 ^ 7 % 2 ^ 64 ≡ h * 2 ^ 7 = omega arith in
    let t : h * 2 ^ 0 % 2 ^ 64 ≡ h * 2 ^ 0 = omega arith in
    ap₂ bit_xor p (ap₂ bit_xor q (ap₂ bit_xor r t))

-- The bits from x^39 on are folded, and those below stay.
pub word_shortened : (w h : ℕ) → h ≡ times 15 (10 ∷ 7 ∷ 0 ∷ []) (w / 2 ^ 39) → Same (bit_xor h (w % 2 ^ 39)) w
word_shortened w h e =
    then (same_left (w % 2 ^ 39) (then (same e) (back (fold_39 (w / 2 ^ 39))))) (same (xor_parts 39 w))

-- What is left has 40 bits.
pub shortened_lt : (h l : ℕ) {r : ℕ} → h < 2 ^ 25 → l < 2 ^ 39 → r ≡ times 15 (10 ∷ 7 ∷ 0 ∷ []) h → bit_xor r l < 2 ^ 40
shortened_lt h l p q e =
    rw e
    (xor_lt 40 (times 15 (10 ∷ 7 ∷ 0 ∷ []) h) l
    (xor_lt 40 (h * 2 ^ 15) (times 10 (7 ∷ 0 ∷ []) h) (omega arith)
    (xor_lt 40 (h * 2 ^ 10) (times 7 (0 ∷ []) h) (omega arith)
    (xor_lt 40 (h * 2 ^ 7) (h * 2 ^ 0) (omega arith) (omega arith))))
    (omega arith))

-- ---- the head of a part, and the rest

-- No byte is left after all of s.
pub nothing_left : (s : List ℕ) (x : ℕ) → with_rest x s (length s) ≡ x
unfolding followed
nothing_left s x = ap (followed 8 x) (drop-length s)

-- The words x and the bytes from n on lead to the register, if they have the remainder of the first k bytes with the
-- register and the bytes from k on.
pub head_leads : (k start : ℕ) (s : List ℕ) (x n : ℕ) → 2 ≤ k → k ≤ length s → start < 65536
    → ((i : ℕ) → get_or s i 0 < 256) → Same (with_rest x s n) (with_rest (with_register start k s) s k)
    → crc_of (with_rest x s n) ≡ crc start s
head_leads k start s x n l h hs hb p = crc_of_same p ∙ crc_of_register k start s l h hs hb
