-- Laws about bit_xor that the kit's lib.Bits lacks. It adds polynomials over GF(2).
use mathlib.Core.Path.{◌≡◌, refl, sym, ap, ap₂, ◌∙◌}
use Prim.Native.Nat.{ℕ, zero, suc, ◌+◌, ◌*◌, ◌/◌, ◌%◌, ◌^◌, ◌<◌}
use native.Mathlib.Nat.{add-zero, mod-lt, mul_assoc, mul_comm, zero-lt-suc, div-add-mod'}
use native.Mathlib.Omega.{arith}
use lib.Arith.{bin_ind}
use lib.Pow.{pow_pos, pow-add}
use lib.Bits.{bit_xor, differ, xor_step, xor_zero_r, xor_comm, xor_self, xor_block, xor_shifted, xor_shr, xor_mod}

-- A bit is 0 or 1.
pub data Bit : ℕ → Type 0 where
  off : Bit 0
  on : Bit 1

pub bit_below : (n : ℕ) → n < 2 → Bit n
bit_below zero h = off
bit_below (suc zero) h = on
bit_below (suc (suc n)) h = absurd (omega arith)

-- The lowest bit of a number.
pub lowest_bit : (n : ℕ) → Bit (n % 2)
lowest_bit n = bit_below (n % 2) (mod-lt n (zero-lt-suc 1))

bits_assoc : {a b c : ℕ} → Bit a → Bit b → Bit c → differ (bit_xor a b) c ≡ differ a (bit_xor b c)
bits_assoc off off r = refl
bits_assoc off on off = refl
bits_assoc off on on = refl
bits_assoc on off r = refl
bits_assoc on on off = refl
bits_assoc on on on = refl

pub xor_assoc : (a b c : ℕ) → bit_xor (bit_xor a b) c ≡ bit_xor a (bit_xor b c)
xor_assoc a =
    bin_ind (λ (n : ℕ). (b c : ℕ) → bit_xor (bit_xor n b) c ≡ bit_xor n (bit_xor b c)) (λ b c. refl)
    (λ n ih b c.
    xor_step (bit_xor n b) c
    ∙ ap₂ (λ (x y : ℕ). bit_xor x (c / 2) * 2 + differ y (c % 2)) (xor_shr n b 1) (xor_mod n b 1)
    ∙ ap₂ (λ (x y : ℕ). x * 2 + y) (ih (b / 2) (c / 2)) (bits_assoc (lowest_bit n) (lowest_bit b) (lowest_bit c))
    ∙ sym
    (xor_step n (bit_xor b c)
    ∙ ap₂ (λ (x y : ℕ). bit_xor (n / 2) x * 2 + differ (n % 2) y) (xor_shr b c 1) (xor_mod b c 1)))
    a

-- a + (b + c) = b + (a + c)
pub xor_lift : (a b c : ℕ) → bit_xor a (bit_xor b c) ≡ bit_xor b (bit_xor a c)
xor_lift a b c = sym (xor_assoc a b c) ∙ ap (λ (x : ℕ). bit_xor x c) (xor_comm a b) ∙ xor_assoc b a c

-- (a + b) + (c + d) = (a + c) + (b + d)
pub xor_swap : (a b c d : ℕ) → bit_xor (bit_xor a b) (bit_xor c d) ≡ bit_xor (bit_xor a c) (bit_xor b d)
xor_swap a b c d =
    xor_assoc a b (bit_xor c d) ∙ ap (bit_xor a) (xor_lift b c d) ∙ sym (xor_assoc a c (bit_xor b d))

-- (a + b) + c = (a + c) + b
pub xor_past : (a b c : ℕ) → bit_xor (bit_xor a b) c ≡ bit_xor (bit_xor a c) b
xor_past a b c = xor_assoc a b c ∙ ap (bit_xor a) (xor_comm b c) ∙ sym (xor_assoc a c b)

-- (a + b) + b = a
pub xor_twice : (a b : ℕ) → bit_xor (bit_xor a b) b ≡ a
xor_twice a b = xor_assoc a b b ∙ ap (bit_xor a) (xor_self b) ∙ xor_zero_r a

-- Two polynomials whose sum is 0 are equal.
pub xor_cancel : (a b : ℕ) → bit_xor a b ≡ 0 → a ≡ b
xor_cancel a b e = sym (xor_twice a b) ∙ ap (λ (x : ℕ). bit_xor x b) e

-- (a + b) x^k = a x^k + b x^k
pub xor_scale : (k a b : ℕ) → bit_xor a b * 2 ^ k ≡ bit_xor (a * 2 ^ k) (b * 2 ^ k)
xor_scale k a b =
    sym (add-zero (bit_xor a b * 2 ^ k))
    ∙ sym (xor_block k a b 0 0 (pow_pos k) (pow_pos k))
    ∙ ap₂ bit_xor (add-zero (a * 2 ^ k)) (add-zero (b * 2 ^ k))

-- The bits from x^k on, plus those below.
pub xor_parts : (k n : ℕ) → bit_xor (n / 2 ^ k * 2 ^ k) (n % 2 ^ k) ≡ n
xor_parts k n = xor_shifted (n / 2 ^ k) k (n % 2 ^ k) (mod-lt n (pow_pos k)) ∙ div-add-mod' n (2 ^ k)

-- a b c = a c b
pub mul_swap : (a b c : ℕ) → a * b * c ≡ a * c * b
mul_swap a b c = mul_assoc a b c ∙ ap (λ (x : ℕ). a * x) (mul_comm b c) ∙ sym (mul_assoc a c b)

-- a x^j x^k = a x^(j + k)
pub shift_shift : (a j k : ℕ) → a * 2 ^ j * 2 ^ k ≡ a * 2 ^ (j + k)
shift_shift a j k = mul_assoc a (2 ^ j) (2 ^ k) ∙ ap (λ (x : ℕ). a * x) (sym (pow-add 2 j k))
