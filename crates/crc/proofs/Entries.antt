-- The table's entries do the work of eight steps of the register.
use mathlib.Core.Path.{◌≡◌, sym, ap, ap₂, ◌∙◌}
use mathlib.Core.List.{List}
use Prim.Native.Nat.{ℕ, zero, suc, ◌+◌, ◌*◌, ◌/◌, ◌%◌, ◌<◌}
use native.Mathlib.Nat.{add-zero, zero-add, add-suc, suc-add, mod-lt, mul_assoc}
use native.Mathlib.Omega.{arith}
use lib.ListN.{get_or}
use lib.Pow.{pow_pos}
use lib.Bits.{bit_xor, xor_comm, xor_shifted}
use Rattle.crc.specs.Crc.{crc_byte}
use Rattle.crc.specs.Inner.Remainders.{rem}
use Rattle.crc.specs.Inner.Tables.{remainders_from, table, Index}
use Rattle.crc.proofs.Xor.{xor_assoc, xor_scale}
use Rattle.crc.proofs.Remainders.{rem-xor, rem_small}
use Rattle.crc.proofs.Registers.{crc_byte_lem}

entry_from : (n i k : ℕ) → k < n → get_or (remainders_from i n) k 0 ≡ rem ((i + k) * 65536)
unfolding remainders_from
entry_from zero i k h = absurd (omega arith)
entry_from (suc n) i zero h = ap (λ (x : ℕ). rem (x * 65536)) (sym (add-zero i))
entry_from (suc n) i (suc k) h =
    entry_from n (suc i) k (omega arith) ∙ ap (λ (x : ℕ). rem (x * 65536)) (suc-add i k ∙ sym (add-suc i k))

entry : (k : ℕ) → k < 256 → get_or table k 0 ≡ rem (k * 65536)
unfolding table
entry k h = entry_from 256 0 k h ∙ ap (λ (x : ℕ). rem (x * 65536)) (zero-add k)

-- The register times x^8, plus an entry for what leaves it at the top, is the register after the byte.
pub crc_byte_by_entry : (t : List ℕ) (r b k : ℕ) → r < 65536 → b < 256 → Index r b k → t ≡ table
    → bit_xor (r * 256 % 65536) (get_or t k 0) ≡ crc_byte r b
crc_byte_by_entry t r b k hr hb p e =
    ap₂ bit_xor (sym (rem_small low (mod-lt (r * 256) (pow_pos 16)))) (ap (λ (l : List ℕ). get_or l k 0) e ∙ entry k p.small)
    ∙ sym (rem-xor low (k * 65536))
    ∙ ap rem (sym parts)
    ∙ sym (crc_byte_lem r b hr hb)
  where
    low : ℕ
    low = r * 256 % 65536

    high_and_low : r * 256 ≡ bit_xor (r / 256 * 65536) low
    high_and_low =
        let e : r * 256 ≡ r / 256 * 65536 + r * 256 % 65536 = omega arith in
        e ∙ sym (xor_shifted (r / 256) 16 low (mod-lt (r * 256) (pow_pos 16)))

    parts : bit_xor (b * 256) r * 256 ≡ bit_xor low (k * 65536)
    parts =
        xor_scale 8 (b * 256) r
        ∙ ap₂ bit_xor (mul_assoc b 256 256) high_and_low
        ∙ sym (xor_assoc (b * 65536) (r / 256 * 65536) low)
        ∙ ap (λ (x : ℕ). bit_xor x low)
        (sym (xor_scale 16 b (r / 256)) ∙ ap (λ (x : ℕ). x * 65536) (xor_comm b (r / 256) ∙ sym p.sum))
        ∙ xor_comm (k * 65536) low
