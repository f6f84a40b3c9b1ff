-- These laws extend a property of all numbers below n by one number at a time.
use mathlib.Core.Path.{◌≡◌}
use Prim.Native.Nat.{ℕ, suc, ◌<◌}
use native.Mathlib.Decide.{ℕ_discrete}
use native.Mathlib.Omega.{arith}

-- No number is below 0, so any property holds for all of these.
pub none_below : (P : ℕ → Type 0) (k : ℕ) → k < 0 → P k
none_below P k h = absurd (omega arith)

-- A property of n and of all numbers below n holds for all numbers below n + 1.
pub next_below : (P : ℕ → Type 0) (n : ℕ) → ((k : ℕ) → k < n → P k) → P n → (k : ℕ) → k < suc n → P k
next_below P n all p k h = go (ℕ_discrete k n)
  where
    go : Dec (k ≡ n) → P k
    go (yes same) = rw same p
    go (no other) = all k (omega (arith, other))

-- A property of 0 and of 1 holds for all numbers below 2.
pub two_below : (P : ℕ → Type 0) → P 0 → P 1 → (k : ℕ) → k < 2 → P k
two_below P p q = next_below P 1 (next_below P 0 (none_below P) p) q
