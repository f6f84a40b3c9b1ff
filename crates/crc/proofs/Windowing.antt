-- Bytes go through the window: out[i] = in[i] + out[i - 338] + out[i - 369].
use mathlib.Core.Path.{◌≡◌, refl, sym, ap, ap₂, ◌∙◌, subst}
use mathlib.Core.List.{List, [], ◌∷◌, ◌++◌}
use Prim.Native.Nat.{ℕ, zero, suc, ◌+◌, ◌-◌, ◌*◌, ◌/◌, ◌%◌, ◌^◌, ◌≤◌, ◌<◌}
use native.Mathlib.Nat.{mul-one, zero-add}
use native.Mathlib.Numerals.{add-one}
use native.Mathlib.Omega.{arith}
use lib.ListN.{length, get_or, take, drop, set, replicate, length-drop, length-set}
use lib.Seq.{drop-cons, take-suc, take-set-le, take-suc-set, drop-set-add, length-take-le, get_or-drop}
use lib.Seq.{take-length, take-take, get_or-take}
use lib.Bits.{bit_xor, xor_comm, xor_zero_r}
use Rattle.crc.specs.Division.{followed}
use Rattle.crc.specs.Inner.Remainders.{rem, rem_bits, reduce, Same}
use Rattle.crc.specs.Inner.Folding.{bytes_at, with_register}
use Rattle.crc.specs.Inner.Windows.{window}
use Rattle.crc.proofs.Xor.{xor_assoc, xor_swap, xor_past, xor_twice, xor_scale, xor_parts, shift_shift}
use Rattle.crc.proofs.Remainders.{same, back, then, same_left, same_right, same_shift}
use Rattle.crc.proofs.Folding.{fold}
use Rattle.crc.proofs.Pieces.{followed_plus, followed-first, followed-append, followed_last, followed_same}
use Rattle.crc.proofs.Reading.{read_more, read_one}

-- ---- a byte enters: x^2952 has the remainder of x^248 + 1

fold_2952 : (a : ℕ) → Same (a * 2 ^ 2952) (bit_xor (a * 2 ^ 248) (a * 2 ^ 0))
unfolding rem rem_bits reduce
fold_2952 a = fold 2952 248 (0 ∷ []) refl a

-- A byte that leaves the window also leaves its first 31 bytes.
byte_out : (a : ℕ) → Same (bit_xor (a * 2 ^ 2952) (a * 2 ^ 248)) a
byte_out a =
    then (same_left (a * 2 ^ 248) (fold_2952 a))
    (same
    (ap (λ (x : ℕ). bit_xor x (a * 2 ^ 248)) (xor_comm (a * 2 ^ 248) (a * 2 ^ 0))
    ∙ xor_twice (a * 2 ^ 0) (a * 2 ^ 248)
    ∙ mul-one a))

-- The first of n + 1 bytes, when one more byte comes after them.
first_byte : (b : ℕ) (l : List ℕ) (n : ℕ) → length l ≡ n
    → followed 8 0 (b ∷ l) * 2 ^ 8 ≡ bit_xor (b * 2 ^ (8 * n + 8)) (followed 8 0 l * 2 ^ 8)
first_byte b l n e =
    ap (λ (x : ℕ). x * 2 ^ 8) (followed-first 8 b l ∙ ap (λ (k : ℕ). bit_xor (b * 2 ^ (8 * k)) (followed 8 0 l)) e)
    ∙ xor_scale 8 (b * 2 ^ (8 * n)) (followed 8 0 l)
    ∙ ap (λ (x : ℕ). bit_xor x (followed 8 0 l * 2 ^ 8)) (shift_shift b (8 * n) 8)

-- The window a ∷ t moves on by one byte: a leaves it, and b enters.
byte_in : (a s b : ℕ) (t : List ℕ) → 368 < length t → b ≡ bit_xor s (bit_xor (get_or t 30 0) a)
    → Same (window (set t 368 b)) (bit_xor s (window (a ∷ t) * 2 ^ 8))
unfolding window
byte_in a s b t h e =
    then (same left) (then (same_right s (same_left (bit_xor p q) (back (byte_out a)))) (same (sym right)))
  where
    g : ℕ
    g = get_or t 30 0

    p : ℕ
    p = followed 8 0 (take 368 t) * 2 ^ 8

    q : ℕ
    q = followed 8 0 (take 30 t) * 2 ^ 8

    left : window (set t 368 b) ≡ bit_xor s (bit_xor a (bit_xor p q))
    left =
        ap₂ (λ (x y : List ℕ). bit_xor (followed 8 0 x) (followed 8 0 y)) (take-suc-set t 368 b h)
        (take-set-le 31 t 368 b (omega arith) ∙ take-suc t 30 0 (omega arith))
        ∙ ap₂ bit_xor (followed_last 8 0 (take 368 t) b ∙ ap (λ (x : ℕ). bit_xor x p) e) (followed_last 8 0 (take 30 t) g)
        ∙ xor_swap (bit_xor s (bit_xor g a)) p g q
        ∙ ap (λ (x : ℕ). bit_xor x (bit_xor p q))
        (ap (λ (x : ℕ). bit_xor (bit_xor s x) g) (xor_comm g a)
        ∙ ap (λ (x : ℕ). bit_xor x g) (sym (xor_assoc s a g))
        ∙ xor_twice (bit_xor s a) g)
        ∙ xor_assoc s a (bit_xor p q)

    right : bit_xor s (window (a ∷ t) * 2 ^ 8)
        ≡ bit_xor s (bit_xor (bit_xor (a * 2 ^ 2952) (a * 2 ^ 248)) (bit_xor p q))
    right =
        ap (bit_xor s)
        (xor_scale 8 (followed 8 0 (a ∷ take 368 t)) (followed 8 0 (a ∷ take 30 t))
        ∙ ap₂ bit_xor (first_byte a (take 368 t) 368 (length-take-le 368 t (omega arith)))
        (first_byte a (take 30 t) 30 (length-take-le 30 t (omega arith)))
        ∙ xor_swap (a * 2 ^ 2952) p (a * 2 ^ 248) q)

-- One more byte of s enters the window at i.
pub byte_entered : (o o₀ s : List ℕ) (i b : ℕ) → i < length s → i + 369 < length o
    → b ≡ bit_xor (get_or s i 0) (bit_xor (get_or o (i + 31) 0) (get_or o i 0))
    → Same (window (drop i o)) (followed 8 (window o₀) (take i s))
    → Same (window (drop (i + 1) (set o (i + 369) b))) (followed 8 (window o₀) (take (i + 1) s))
byte_entered o o₀ s i b h k e w =
    then (same (ap window moved))
    (then (byte_in (get_or o i 0) (get_or s i 0) b t long known)
    (then
    (same_right (get_or s i 0) (same_shift 8 (then (same (ap window (sym (drop-cons o i 0 (omega arith))))) w)))
    (same more)))
  where
    t : List ℕ
    t = drop (suc i) o

    long : 368 < length t
    long = let q : length t ≡ length o - suc i = length-drop (suc i) o in omega arith

    moved : drop (i + 1) (set o (i + 369) b) ≡ set t 368 b
    moved =
        let f : i + 369 ≡ suc i + 368 = omega arith in
        ap₂ (λ (m n : ℕ). drop m (set o n b)) (add-one i) f ∙ drop-set-add (suc i) o 368 b

    known : b ≡ bit_xor (get_or s i 0) (bit_xor (get_or t 30 0) (get_or o i 0))
    known =
        let f : i + 31 ≡ suc i + 30 = omega arith in
        e
        ∙ ap (λ (x : ℕ). bit_xor (get_or s i 0) (bit_xor x (get_or o i 0)))
        (ap (λ (n : ℕ). get_or o n 0) f ∙ sym (get_or-drop (suc i) o 30 0))

    more : bit_xor (get_or s i 0) (followed 8 (window o₀) (take i s) * 2 ^ 8) ≡ followed 8 (window o₀) (take (i + 1) s)
    more =
        ap (λ (x : ℕ). bit_xor x (followed 8 (window o₀) (take i s) * 2 ^ 8)) (read_one s i h)
        ∙ read_more s 0 i i 1 (window o₀) (zero-add i) (omega arith)

-- All bytes of s have entered.
pub all_entered : (o o₀ s : List ℕ) (i : ℕ) → i ≡ length s
    → Same (window (drop i o)) (followed 8 (window o₀) (take i s))
    → Same (window (drop (length s) o)) (followed 8 (window o₀) s)
all_entered o o₀ s i e h =
    subst (λ (l : List ℕ). Same (window (drop (length s) o)) (followed 8 (window o₀) l)) (take-length s)
    (subst (λ (n : ℕ). Same (window (drop n o)) (followed 8 (window o₀) (take n s))) e h)

-- ---- the window moves to the start

-- Windows with the same bytes stand for the same.
window_of : (o l : List ℕ) → take 369 o ≡ take 369 l → window o ≡ window l
unfolding window
window_of o l e =
    ap₂ (λ (x y : List ℕ). bit_xor (followed 8 0 x) (followed 8 0 y)) e
    (sym (take-take 31 369 o (omega arith)) ∙ ap (take 31) e ∙ take-take 31 369 l (omega arith))

-- The first part of the rest went through the window, and it is at the start again.
pub stride_entered : (o o₁ o₂ rest after part : List ℕ) {a : ℕ} → rest ≡ part ++ after
    → Same (window (drop (length part) o₁)) (followed 8 (window o) part)
    → take 369 o₂ ≡ take 369 (drop (length part) o₁) → Same (followed 8 (window o) rest) a
    → Same (followed 8 (window o₂) after) a
stride_entered o o₁ o₂ rest after part e g m h =
    then (followed_same 8 after (then (same (window_of o₂ (drop (length part) o₁) m)) g))
    (then (same (sym (ap (followed 8 (window o)) e ∙ followed-append 8 (window o) part after))) h)

-- No byte is left to enter.
pub none_left : (a : ℕ) {b : ℕ} (rest : List ℕ) → length rest ≡ 0 → Same (followed 8 a rest) b → Same a b
unfolding followed
none_left a [] e h = h
none_left a (x ∷ rest) e h = absurd (omega arith)

-- ---- the first two bytes

zeros : (n : ℕ) → followed 8 0 (replicate n 0) ≡ 0
unfolding followed
zeros zero = refl
zeros (suc n) = zeros n

take_zeros : (m n : ℕ) → m ≤ n → take {A = ℕ} m (replicate n 0) ≡ replicate m 0
take_zeros zero n h = refl
take_zeros (suc m) zero h = absurd (omega arith)
take_zeros (suc m) (suc n) h = ap (λ (l : List ℕ). 0 ∷ l) (take_zeros m n (omega arith))

-- The first two bytes, with the register, at the end of an empty window are all that it stands for.
pub first_entered : (o s : List ℕ) (r x y : ℕ) → 368 < length o → take 367 o ≡ replicate 367 0 → 2 ≤ length s
    → x ≡ bit_xor (get_or s 0 0) (r / 256) → y ≡ bit_xor (get_or s 1 0) (r % 256)
    → window (set (set o 367 x) 368 y) ≡ with_register r 2 s
unfolding window
first_entered o s r x y h e k hx hy =
    ap₂ (λ (a b : List ℕ). bit_xor (followed 8 0 a) (followed 8 0 b)) whole none
    ∙ ap₂ bit_xor bytes (zeros 31)
    ∙ xor_zero_r (bit_xor y (x * 2 ^ 8))
    ∙ ap₂ (λ (a b : ℕ). bit_xor a (b * 2 ^ 8)) hy hx
    ∙ ap (bit_xor (bit_xor (get_or s 1 0) (r % 256))) (xor_scale 8 (get_or s 0 0) (r / 256))
    ∙ xor_swap (get_or s 1 0) (r % 256) (get_or s 0 0 * 2 ^ 8) (r / 256 * 2 ^ 8)
    ∙ ap₂ bit_xor two (xor_comm (r % 256) (r / 256 * 2 ^ 8) ∙ xor_parts 8 r ∙ sym (mul-one r))
  where
    whole : take 369 (set (set o 367 x) 368 y) ≡ (replicate 367 0 ++ x ∷ []) ++ y ∷ []
    whole =
        take-suc-set (set o 367 x) 368 y (subst (λ (n : ℕ). 368 < n) (sym (length-set o 367 x)) h)
        ∙ ap (λ (l : List ℕ). l ++ y ∷ []) (take-suc-set o 367 x (omega arith) ∙ ap (λ (l : List ℕ). l ++ x ∷ []) e)

    none : take 31 (set (set o 367 x) 368 y) ≡ replicate 31 0
    none =
        take-set-le 31 (set o 367 x) 368 y (omega arith)
        ∙ take-set-le 31 o 367 x (omega arith)
        ∙ sym (take-take 31 367 o (omega arith))
        ∙ ap (take 31) e
        ∙ take_zeros 31 367 (omega arith)

    bytes : followed 8 0 ((replicate 367 0 ++ x ∷ []) ++ y ∷ []) ≡ bit_xor y (x * 2 ^ 8)
    bytes =
        followed_last 8 0 (replicate 367 0 ++ x ∷ []) y
        ∙ ap (λ (z : ℕ). bit_xor y (z * 2 ^ 8))
        (followed_last 8 0 (replicate 367 0) x ∙ ap (λ (z : ℕ). bit_xor x (z * 2 ^ 8)) (zeros 367) ∙ xor_zero_r x)

    two : bit_xor (get_or s 1 0) (get_or s 0 0 * 2 ^ 8) ≡ bytes_at s 0 2
    two =
        ap₂ (λ (a b : ℕ). bit_xor a (b * 2 ^ 8)) (read_one s 1 (omega arith)) (read_one s 0 (omega arith))
        ∙ read_more s 0 1 1 1 0 refl (omega arith)

-- ---- the window's bytes, once its first 31 are added to its last 31

-- A byte b is added at place k, and m bytes follow it.
byte_added : (a b : ℕ) (l : List ℕ) (n k m : ℕ) → n ≡ k + 1 + m → n ≤ length l
    → followed 8 a (take n (set l k (bit_xor (get_or l k 0) b))) ≡ bit_xor (followed 8 a (take n l)) (b * 2 ^ (8 * m))
unfolding followed
byte_added a b [] n k m e h = absurd (omega arith)
byte_added a b (c ∷ l) zero k m e h = absurd (omega arith)
byte_added a b (c ∷ l) (suc n) zero m e h =
    let g : n ≡ m = omega arith in
    ap (λ (x : ℕ). followed 8 x (take n l)) (xor_past c b (a * 2 ^ 8))
    ∙ followed_plus 8 (bit_xor c (a * 2 ^ 8)) b (take n l)
    ∙ ap (λ (j : ℕ). bit_xor (followed 8 (bit_xor c (a * 2 ^ 8)) (take n l)) (b * 2 ^ (8 * j)))
    (length-take-le n l (omega arith) ∙ g)
byte_added a b (c ∷ l) (suc n) (suc k) m e h = byte_added (bit_xor c (a * 2 ^ 8)) b l n k m (omega arith) (omega arith)

-- While the first 31 bytes are added to the last 31: none is added yet, one more is added, all are added.
pub overlap_none : (o : List ℕ) → bytes_at o 0 369 ≡ bit_xor (bytes_at o 0 369) (bytes_at o 0 0 * 2 ^ (8 * (31 - 0)))
unfolding followed
overlap_none o = sym (xor_zero_r (bytes_at o 0 369))

pub overlap_added : (o o₀ : List ℕ) (i : ℕ) → i < 31 → 369 ≤ length o → 369 ≤ length o₀ → take 338 o ≡ take 338 o₀
    → bytes_at o 0 369 ≡ bit_xor (bytes_at o₀ 0 369) (bytes_at o₀ 0 i * 2 ^ (8 * (31 - i)))
    → bytes_at (set o (i + 338) (bit_xor (get_or o (i + 338) 0) (get_or o i 0))) 0 369
    ≡ bit_xor (bytes_at o₀ 0 369) (bytes_at o₀ 0 (i + 1) * 2 ^ (8 * (31 - (i + 1))))
overlap_added o o₀ i h l l₀ e f =
    byte_added 0 b o 369 (i + 338) m (omega arith) l
    ∙ ap (λ (x : ℕ). bit_xor x (b * 2 ^ (8 * m))) f
    ∙ xor_assoc (bytes_at o₀ 0 369) (bytes_at o₀ 0 i * 2 ^ (8 * (31 - i))) (b * 2 ^ (8 * m))
    ∙ ap (bit_xor (bytes_at o₀ 0 369)) (xor_comm (bytes_at o₀ 0 i * 2 ^ (8 * (31 - i))) (b * 2 ^ (8 * m)) ∙ sym more)
  where
    b : ℕ
    b = get_or o i 0

    m : ℕ
    m = 31 - (i + 1)

    byte : b ≡ bytes_at o₀ i 1
    byte =
        sym (get_or-take 338 o i 0 (omega arith))
        ∙ ap (λ (l : List ℕ). get_or l i 0) e
        ∙ get_or-take 338 o₀ i 0 (omega arith)
        ∙ read_one o₀ i (omega arith)

    bits : 8 + 8 * m ≡ 8 * (31 - i)
    bits = omega arith

    more : bytes_at o₀ 0 (i + 1) * 2 ^ (8 * m) ≡ bit_xor (b * 2 ^ (8 * m)) (bytes_at o₀ 0 i * 2 ^ (8 * (31 - i)))
    more =
        ap (λ (x : ℕ). x * 2 ^ (8 * m))
        (sym (read_more o₀ 0 i i 1 0 (zero-add i) (omega arith))
        ∙ ap (λ (x : ℕ). bit_xor x (bytes_at o₀ 0 i * 2 ^ 8)) (sym byte))
        ∙ xor_scale (8 * m) b (bytes_at o₀ 0 i * 2 ^ 8)
        ∙ ap (bit_xor (b * 2 ^ (8 * m)))
        (shift_shift (bytes_at o₀ 0 i) 8 (8 * m) ∙ ap (λ (n : ℕ). bytes_at o₀ 0 i * 2 ^ n) bits)

pub overlap_all : (o o₀ : List ℕ) (i : ℕ) → i ≡ 31
    → bytes_at o 0 369 ≡ bit_xor (bytes_at o₀ 0 369) (bytes_at o₀ 0 i * 2 ^ (8 * (31 - i))) → bytes_at o 0 369 ≡ window o₀
unfolding window
overlap_all o o₀ i e h =
    h
    ∙ ap (λ (n : ℕ). bit_xor (bytes_at o₀ 0 369) (bytes_at o₀ 0 n * 2 ^ (8 * (31 - n)))) e
    ∙ ap (bit_xor (bytes_at o₀ 0 369)) (mul-one (bytes_at o₀ 0 31))

-- The first byte and those after it are the window's bytes.
pub first_then : (o : List ℕ) (n : ℕ) → 0 < length o → followed 8 (get_or o 0 0) (take n (drop 1 o)) ≡ bytes_at o 0 (suc n)
unfolding followed
first_then [] n h = absurd (omega arith)
first_then (b ∷ o) n h = ap (λ (x : ℕ). followed 8 x (take n o)) (sym (xor_zero_r b))
