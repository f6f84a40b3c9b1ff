-- These laws show that the bytes of a field found in a stream are the stream's own.
use mathlib.Core.Path.{◌≡◌, refl, ap, ◌∙◌}
use mathlib.Core.List.{List, [], ◌∷◌}
use Prim.Native.Nat.{ℕ, zero, suc, ◌+◌, ◌*◌, ◌/◌, ◌%◌, ◌<◌}
use native.Mathlib.Omega.{arith}
use lib.ListN.{drop, get_or}
use lib.Seq.{get_or-take, get_or-drop}
use Rattle.guard.specs.Guards.{Bytes}
use Rattle.field.specs.Fields.{bytes_of, field_of}
use Rattle.engine.specs.declared.Rule.{Rule}
use Rattle.engine.specs.Streams.{field_size, in_block, in_unit, input_field}
use Rattle.engine.proofs.Settling.{bytes_take}
use Rattle.audit.specs.Errors.{FoundBytes}

-- The bytes of a field that was read from eight bytes are those eight bytes.
pub split_joined : (a b c d e f g h : ℕ) → b < 256 → d < 256 → f < 256 → g < 256 → h < 256
    → bytes_of (field_of (a ∷ b ∷ c ∷ d ∷ e ∷ f ∷ g ∷ h ∷ [])) ≡ a ∷ b ∷ c ∷ d ∷ e ∷ f ∷ g ∷ h ∷ []
unfolding bytes_of field_of
split_joined a b c d e f g h p q r s t =
    let guard : (a * 256 + b) / 256 ≡ a = omega arith in
    let guard' : (a * 256 + b) % 256 ≡ b = omega arith in
    let tag : (c * 256 + d) / 256 ≡ c = omega arith in
    let tag' : (c * 256 + d) % 256 ≡ d = omega arith in
    let high : ((e * 256 + f) * 65536 + (g * 256 + h)) / 65536 ≡ e * 256 + f = omega arith in
    let low : ((e * 256 + f) * 65536 + (g * 256 + h)) % 65536 ≡ g * 256 + h = omega arith in
    let one : (e * 256 + f) / 256 ≡ e = omega arith in
    let two : (e * 256 + f) % 256 ≡ f = omega arith in
    let three : (g * 256 + h) / 256 ≡ g = omega arith in
    let four : (g * 256 + h) % 256 ≡ h = omega arith in
    rw (guard, guard', tag, tag', high, low, one, two, three, four)

-- Element k of the list of f 0 to f 7 is f k.
pub eight_at : {A : Type 0} (f : ℕ → A) (d : A) (k : ℕ) → k < 8
    → get_or (f 0 ∷ f 1 ∷ f 2 ∷ f 3 ∷ f 4 ∷ f 5 ∷ f 6 ∷ f 7 ∷ []) k d ≡ f k
eight_at f d zero h = refl
eight_at f d (suc zero) h = refl
eight_at f d (suc (suc zero)) h = refl
eight_at f d (suc (suc (suc zero))) h = refl
eight_at f d (suc (suc (suc (suc zero)))) h = refl
eight_at f d (suc (suc (suc (suc (suc zero))))) h = refl
eight_at f d (suc (suc (suc (suc (suc (suc zero)))))) h = refl
eight_at f d (suc (suc (suc (suc (suc (suc (suc zero))))))) h = refl
eight_at f d (suc (suc (suc (suc (suc (suc (suc (suc k)))))))) h = absurd (omega arith)

-- Byte k of a field that was read from a list of bytes is byte k of that list.
found_byte : (bs : List ℕ) → Bytes bs → (k : ℕ) → k < 8 → get_or (bytes_of (field_of bs)) k 0 ≡ get_or bs k 0
unfolding field_of
found_byte bs b k h =
    ap (λ (l : List ℕ). get_or l k 0)
    (split_joined (get_or bs 0 0) (get_or bs 1 0) (get_or bs 2 0) (get_or bs 3 0) (get_or bs 4 0) (get_or bs 5 0) (get_or bs 6 0) (get_or bs 7 0) (b 1) (b 3) (b 5) (b 6) (b 7))
    ∙ eight_at (λ (i : ℕ). get_or bs i 0) 0 k h

pub bytes_drop : (n : ℕ) (xs : List ℕ) → Bytes xs → Bytes (drop n xs)
bytes_drop n xs b i = rw (get_or-drop n xs i 0) (b (n + i))

-- The bytes of the field found after block i are those after block i in the stream.
pub found_bytes : (r : Rule) (stream : List ℕ) → FoundBytes r stream
unfolding input_field field_size
found_bytes r stream b s i k h =
    let at = i * in_unit r + in_block r in
    let eight : field_size r.input ≡ 8 = rw s in
    found_byte (input_field r stream i) (bytes_take (field_size r.input) (drop at stream) (bytes_drop at stream b)) k h
    ∙ get_or-take (field_size r.input) (drop at stream) k 0 (omega (arith, eight)) ∙ get_or-drop at stream k 0
