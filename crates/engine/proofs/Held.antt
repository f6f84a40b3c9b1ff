-- Bytes are stored in a part of a list one by one.
use mathlib.Core.Path.{◌≡◌}
use mathlib.Core.List.{List}
use Prim.Native.Nat.{ℕ, suc, ◌+◌, ◌≤◌, ◌<◌}
use native.Mathlib.Numerals.{add-one}
use native.Mathlib.Omega.{arith}
use lib.ListN.{length, drop, get_or, set, drop_of_length-le}
use lib.Seq.{sets, drop-cons}

-- Storing byte i of a part and then the bytes from i + 1 on is storing all bytes from i on.
pub sets_more : (all part : List ℕ) (from i : ℕ) → i < length part
    → sets (set all (from + i) (get_or part i 0)) (from + (i + 1)) (drop (i + 1) part) ≡ sets all (from + i) (drop i part)
sets_more all part from i h =
    let e : from + (i + 1) ≡ suc (from + i) = omega arith in
    rw (e, add-one i, drop-cons part i 0 h)

-- After the last byte of a part nothing is left to store.
pub sets_end : (all part : List ℕ) (from i : ℕ) → length part ≤ i → sets all (from + i) (drop i part) ≡ all
sets_end all part from i h = rw (drop_of_length-le part h)
