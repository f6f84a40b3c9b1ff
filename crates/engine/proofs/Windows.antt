-- Laws about windows of two joined lists: a window that lies in one of the lists is a window of that list.
use mathlib.Core.Path.{◌≡◌}
use mathlib.Core.List.{List, ◌++◌}
use Prim.Native.Nat.{ℕ, ◌+◌, ◌≤◌}
use native.Mathlib.Omega.{arith}
use lib.ListN.{length, take, drop, length-drop}
use lib.Seq.{take-append-le, drop-append-le, drop-drop, drop_at}

-- A window that ends within the first list is a window of the first list.
pub window-first : (n m : ℕ) (xs ys : List ℕ) → n + m ≤ length xs → take m (drop n (xs ++ ys)) ≡ take m (drop n xs)
window-first n m xs ys h =
    let k : n ≤ length xs = omega arith in
    let l : m ≤ length (drop n xs) = rw (length-drop n xs) (omega arith) in
    rw (drop-append-le n xs ys k, take-append-le m (drop n xs) ys l)

-- A window that begins in the second list is a window of the second list.
pub window_second : (n m k : ℕ) (xs ys : List ℕ) → length xs ≡ n → take m (drop (n + k) (xs ++ ys)) ≡ take m (drop k ys)
window_second n m k xs ys e = rw (← drop-drop k n (xs ++ ys), drop_at xs ys n e)
