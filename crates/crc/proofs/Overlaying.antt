-- Of the first 512 bytes, the front is added to the rear, one word of each at a time.
use mathlib.Core.Path.{◌≡◌, refl, sym, ap, ap₂, ◌∙◌}
use mathlib.Core.List.{List, [], ◌∷◌}
use Prim.Native.Nat.{ℕ, ◌+◌, ◌*◌, ◌^◌, ◌≤◌}
use native.Mathlib.Nat.{mul-one}
use native.Mathlib.Omega.{arith}
use lib.ListN.{length, take, drop, take-append-drop}
use lib.Seq.{drop-drop}
use lib.Bits.{bit_xor, xor_comm}
use Rattle.crc.specs.Division.{followed}
use Rattle.crc.specs.Inner.Remainders.{rem, rem_bits, reduce, Same}
use Rattle.crc.specs.Inner.Folding.{with_word, with_rest, bytes_at}
use Rattle.crc.specs.declared.six_words.SixWords.{SixWords}
use Rattle.crc.specs.declared.overlay.Overlaid.{Overlaid}
use Rattle.crc.specs.Inner.Carried.{value}
use Rattle.crc.specs.Inner.Overlays.{front, rear, overlay, Overlays}
use Rattle.crc.proofs.Xor.{xor_assoc, xor_swap, xor_past, xor_twice, xor_scale, shift_shift}
use Rattle.crc.proofs.Remainders.{same, back, then, same_left, same_right}
use Rattle.crc.proofs.Folding.{fold, with_sum, word_same}
use Rattle.crc.proofs.Pieces.{followed-append, followed_same}
use Rattle.crc.proofs.Reading.{read_more}

-- ---- a word more of each

front_more : (s : List ℕ) (v m j n : ℕ) → 3 + m ≡ j → m + 8 ≡ n → j + 8 ≤ length s
    → with_word (front s v m) (bytes_at s j 8) ≡ front s v n
unfolding front
front_more s v m j n e f h = read_more s 3 m j 8 v e h ∙ ap (front s v) f

rear_more : (s : List ℕ) (m j n : ℕ) → 243 + m ≡ j → m + 8 ≡ n → j + 8 ≤ length s
    → with_word (rear s m) (bytes_at s j 8) ≡ rear s n
rear_more s m j n e f h = read_more s 243 m j 8 0 e h ∙ ap (rear s) f

-- One word of each follows the sum.
overlay_more : (s : List ℕ) (v j w a p q : ℕ) → j + 280 ≤ length s
    → w ≡ bytes_at s (j + 272) 8 → a ≡ bytes_at s (j + 19) 8 → p ≡ bytes_at s (j + 11) 8 → q ≡ bytes_at s (j + 3) 8
    → with_word (overlay s v j) (bit_xor w (bit_xor a (bit_xor p q))) ≡ overlay s v (j + 8)
overlay_more s v j w a p q h hw ha hp hq =
    with_sum (rear s (j + 29)) (bit_xor front₂ (bit_xor front₁ front₀)) w (bit_xor a (bit_xor p q))
    ∙ ap₂ bit_xor
    (ap (with_word (rear s (j + 29))) hw
    ∙ rear_more s (j + 29) (j + 272) (j + 8 + 29) (omega arith) (omega arith) (omega arith))
    (with_sum front₂ (bit_xor front₁ front₀) a (bit_xor p q)
    ∙ ap₂ bit_xor
    (ap (with_word front₂) ha
    ∙ front_more s v (j + 16) (j + 19) (j + 8 + 16) (omega arith) (omega arith) (omega arith))
    (with_sum front₁ front₀ p q
    ∙ ap₂ bit_xor
    (ap (with_word front₁) hp
    ∙ front_more s v (j + 8) (j + 11) (j + 8 + 8) (omega arith) (omega arith) (omega arith))
    (ap (with_word front₀) hq ∙ front_more s v j (j + 3) (j + 8) (omega arith) refl (omega arith))))
  where
    front₀ : ℕ
    front₀ = front s v j

    front₁ : ℕ
    front₁ = front s v (j + 8)

    front₂ : ℕ
    front₂ = front s v (j + 16)

-- One word of the rear and three of the front are added.
pub word_overlaid : (s : List ℕ) (v j : ℕ) (o : Overlaid) (y : SixWords) (u w a : ℕ) → j + 280 ≤ length s
    → Overlays s v j o → w ≡ bytes_at s (j + 272) 8 → a ≡ bytes_at s (j + 19) 8
    → u ≡ bit_xor w (bit_xor a (bit_xor o.last o.before)) → Same (value y) (with_word (value o.sum) u)
    → Overlays s v (j + 8) (record { sum = y; last = a; before = o.last })
word_overlaid s v j o y u w a h g hw ha hu hy = record {
  sum =
      then hy
      (then (word_same u g.sum)
      (same
      (ap (with_word (overlay s v j)) hu
      ∙ overlay_more s v j w a o.last o.before h hw ha g.last g.before)));
  last = let e : j + 19 ≡ j + 8 + 11 = omega arith in ha ∙ ap (λ (k : ℕ). bytes_at s k 8) e;
  before = let e : j + 11 ≡ j + 8 + 3 = omega arith in g.last ∙ ap (λ (k : ℕ). bytes_at s k 8) e;
}

-- ---- the first four words: the fronts begin in the second, the third and the fourth

-- The words of `begin`, one after the other, are the sum before the loop.
pub overlay-begun : (s : List ℕ) (v a b c d p q w₁ w₂ w₃ x y : ℕ) {z : ℕ} → 512 ≤ length s
    → a ≡ bytes_at s 243 5 → p ≡ bytes_at s 11 8 → q ≡ bytes_at s 3 8
    → w₁ ≡ bytes_at s 248 8 → w₂ ≡ bytes_at s 256 8 → w₃ ≡ bytes_at s 264 8
    → b ≡ bit_xor w₁ v → c ≡ bit_xor w₂ (bit_xor q v) → d ≡ bit_xor w₃ (bit_xor p (bit_xor q v))
    → Same x (with_word a b) → Same y (with_word x c) → Same z (with_word y d) → Same z (overlay s v 0)
unfolding front followed
overlay-begun s v a b c d p q w₁ w₂ w₃ x y h ha hp hq h₁ h₂ h₃ hb hc hd hx hy hz =
    then hz
    (then (word_same d second)
    (same
    (ap (with_word (bit_xor (rear s 21) (bit_xor (front s v 8) v))) hd
    ∙ with_sum (rear s 21) (bit_xor (front s v 8) v) w₃ (bit_xor p (bit_xor q v))
    ∙ ap₂ bit_xor (ap (with_word (rear s 21)) h₃ ∙ rear_more s 21 264 29 refl refl (omega arith))
    (with_sum (front s v 8) v p (bit_xor q v)
    ∙ ap₂ bit_xor (ap (with_word (front s v 8)) hp ∙ front_more s v 8 11 16 refl refl (omega arith)) again))))
  where
    early : with_word v q ≡ front s v 8
    early = ap (with_word v) hq ∙ front_more s v 0 3 8 refl refl (omega arith)

    again : with_word v (bit_xor q v) ≡ bit_xor (front s v 8) v
    again = xor_past q v (v * 2 ^ 64) ∙ ap (λ (t : ℕ). bit_xor t v) early

    first : Same x (bit_xor (rear s 13) v)
    first =
        then hx
        (same
        (ap₂ with_word ha (hb ∙ ap (λ (t : ℕ). bit_xor t v) h₁)
        ∙ xor_past (bytes_at s 248 8) v (rear s 5 * 2 ^ 64)
        ∙ ap (λ (t : ℕ). bit_xor t v) (rear_more s 5 248 13 refl refl (omega arith))))

    second : Same y (bit_xor (rear s 21) (bit_xor (front s v 8) v))
    second =
        then hy
        (then (word_same c first)
        (same
        (ap (with_word (bit_xor (rear s 13) v)) hc
        ∙ with_sum (rear s 13) v w₂ (bit_xor q v)
        ∙ ap₂ bit_xor (ap (with_word (rear s 13)) h₂ ∙ rear_more s 13 256 21 refl refl (omega arith)) again)))

-- ---- the end: x^2152 has the remainder of x^128 + x^64 + 1

fold_2152 : (a : ℕ) → Same (a * 2 ^ 2152) (bit_xor (a * 2 ^ 128) (bit_xor (a * 2 ^ 64) (a * 2 ^ 0)))
unfolding rem rem_bits reduce
fold_2152 a = fold 2152 128 (64 ∷ 0 ∷ []) refl a

-- The loop has read two words too many. Adding them once more takes them out.
two_too_many : (e p q : ℕ)
    → bit_xor (with_word (with_word e q) p) (bit_xor (with_word e q) e)
    ≡ bit_xor (bit_xor (e * 2 ^ 128) (bit_xor (e * 2 ^ 64) (e * 2 ^ 0))) (with_word q (bit_xor p q))
two_too_many e p q =
    ap₂ bit_xor
    (ap (bit_xor p) (xor_scale 64 q (e * 2 ^ 64) ∙ ap (bit_xor (q * 2 ^ 64)) (shift_shift e 64 64))
    ∙ sym (xor_assoc p (q * 2 ^ 64) (e * 2 ^ 128)))
    (xor_assoc q (e * 2 ^ 64) e ∙ ap (λ (t : ℕ). bit_xor q (bit_xor (e * 2 ^ 64) t)) (sym (mul-one e)))
    ∙ xor_swap (bit_xor p (q * 2 ^ 64)) (e * 2 ^ 128) q (bit_xor (e * 2 ^ 64) (e * 2 ^ 0))
    ∙ xor_comm (bit_xor (bit_xor p (q * 2 ^ 64)) q) (bit_xor (e * 2 ^ 128) (bit_xor (e * 2 ^ 64) (e * 2 ^ 0)))
    ∙ ap (bit_xor (bit_xor (e * 2 ^ 128) (bit_xor (e * 2 ^ 64) (e * 2 ^ 0)))) (xor_past p (q * 2 ^ 64) q)

-- After the loop, without the two words too many, the sum may stand for the first 512 bytes.
pub overlay_ended : (s : List ℕ) (v x y p q : ℕ) → 512 ≤ length s → Same x (overlay s v 240)
    → p ≡ bytes_at s 251 8 → q ≡ bytes_at s 243 8 → y ≡ bit_xor x (with_word q (bit_xor p q))
    → Same (with_rest y s 512) (with_rest v s 3)
unfolding front
overlay_ended s v x y p q h hx hp hq hy = then (followed_same 8 (drop 512 s) whole) (same cut)
  where
    e : ℕ
    e = front s v 240

    t : ℕ
    t = bit_xor (e * 2 ^ 128) (bit_xor (e * 2 ^ 64) (e * 2 ^ 0))

    k : ℕ
    k = with_word q (bit_xor p q)

    front_248 : front s v 248 ≡ with_word e q
    front_248 = sym (ap (with_word e) hq ∙ front_more s v 240 243 248 refl refl (omega arith))

    front_256 : front s v 256 ≡ with_word (with_word e q) p
    front_256 =
        sym
        (ap₂ with_word (sym front_248) hp
        ∙ front_more s v 248 251 256 refl refl (omega arith))

    sum : bit_xor (overlay s v 240) k ≡ bit_xor (rear s 269) t
    sum =
        ap (λ (z : ℕ). bit_xor (bit_xor (rear s 269) z) k)
        (ap₂ (λ (m n : ℕ). bit_xor m (bit_xor n e)) front_256 front_248 ∙ two_too_many e p q)
        ∙ xor_assoc (rear s 269) (bit_xor t k) k
        ∙ ap (bit_xor (rear s 269)) (xor_twice t k)

    whole : Same y (front s v 509)
    whole =
        then (same hy)
        (then (same_left k hx)
        (then (same sum)
        (then (same_right (rear s 269) (back (fold_2152 e))) (same (read_more s 3 240 243 269 v refl (omega arith))))))

    cut : with_rest (front s v 509) s 512 ≡ with_rest v s 3
    cut =
        ap (followed 8 (front s v 509)) (sym (drop-drop 509 3 s))
        ∙ sym (followed-append 8 v (take 509 (drop 3 s)) (drop 509 (drop 3 s)))
        ∙ ap (followed 8 v) (take-append-drop 509 (drop 3 s))
