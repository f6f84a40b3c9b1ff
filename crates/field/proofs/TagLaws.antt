-- Laws about reference tags, for any step from block to block and so for both editions: where the code may take the
-- modulus, how tags and checks go on from a block in the middle of a transfer, and which reference tag is good.
use Rattle.std.specs.Prelude.{Some, None}
use Rattle.std.proofs.Common.{◌≡◌, ℕ, ◌+◌, ◌*◌, ◌/◌, ◌%◌, ◌^◌, ◌<◌, Bool, true, false, cond, not, ◌&&◌, eqb, ltb, List, [], ◌∷◌, sym, refl, ap, ◌∙◌, add-mul, div-add-mod', mul_right_comm, arith, ltb-false, eq-eqb, eqb-true}
use borrow.Author.Tests.{lt-leb}
use Rattle.field.specs.declared.Domain.{Domain}
use Rattle.field.specs.declared.ProtectionField.{ProtectionField}
use Rattle.field.specs.declared.Tag.TheVariants.{Reference}
use Rattle.field.specs.Tests.{bit}
use Rattle.field.specs.Domains.{remaps, tag_step, tag_at, reference_tag, domain_from}
use Rattle.field.specs.Fields.{bytes_of, bytes_in, computed_field}
use Rattle.field.specs.Judging.{escaped, checked_mask, differs, digit, mask_of, differing, mismatch, first_bad, judged}
use Rattle.field.proofs.Laws.{digit_small}

-- ---- the wrap

-- What the tag of block i has grown by, with the block's number split at 2^32.
split_steps : (step i : ℕ) → i * step ≡ i / 2 ^ 32 * step * 2 ^ 32 + i % 2 ^ 32 * step
split_steps step i =
    ap (λ (x : ℕ). x * step) (sym (div-add-mod' i (2 ^ 32)))
    ∙ add-mul (i / 2 ^ 32 * 2 ^ 32) (i % 2 ^ 32) step
    ∙ ap (λ (x : ℕ). x + i % 2 ^ 32 * step) (mul_right_comm (i / 2 ^ 32) (2 ^ 32) step)

-- The modulus may also be taken of the block's number, and of what the tag grows by: the sum has the same one.
pub tag_wraps : (tag step i : ℕ) → (tag + i % 2 ^ 32 * step % 2 ^ 32) % 2 ^ 32 ≡ tag_at tag step i
tag_wraps tag step i = omega (arith, split_steps step i)

-- ---- the advance

-- The tag j steps on from the tag i steps on is the tag i + j steps on.
pub tag_advance : (tag step i j : ℕ) → tag_at (tag_at tag step i) step j ≡ tag_at tag step (i + j)
tag_advance tag step i j = omega (arith, add-mul i j step)

-- In the domain that begins at block i of d, block j has the reference tag of block i + j of d.
pub reference_advance : (d : Domain) (i j : ℕ) → reference_tag (domain_from d i) j ≡ reference_tag d (i + j)
unfolding reference_tag tag_step
reference_advance d i j = go d.reference_tag (tag_step d) (remaps d)
  where
    go : (t s : ℕ) (b : Bool) → cond b (tag_at (cond b (tag_at t s i) t) s j) (cond b (tag_at t s i) t) ≡ cond b (tag_at t s (i + j)) t
    go t s true = tag_advance t s i j
    go t s false = refl

-- In the domain that begins at block i of d, the field computed for block j is that of block i + j of d.
pub field_advance : (d : Domain) (i j g : ℕ) → computed_field (domain_from d i) j g ≡ computed_field d (i + j) g
unfolding computed_field
field_advance d i j g = rw (reference_advance d i j)

-- In the domain that begins at block i of d, block j is judged as block i + j of d.
pub judged_advance : (d : Domain) (m i j g : ℕ) (found : ProtectionField) → judged (domain_from d i) m j g found ≡ judged d m (i + j) g found
unfolding judged checked_mask escaped
judged_advance d m i j g found = rw (field_advance d i j g)

-- ---- the check

-- A byte does not differ from itself, checked or not.
self_same : (c : Bool) (x : ℕ) → c && not (eqb x x) ≡ false
self_same true x = rw (eq-eqb x x refl)
self_same false x = refl

-- No byte of a list differs from itself.
none_differ : (cs : List Bool) (xs : List ℕ) → mask_of 0 (differs cs xs xs) ≡ 0
unfolding mask_of differs
none_differ [] xs = refl
none_differ (c ∷ cs) [] = refl
none_differ (c ∷ cs) (x ∷ xs) = rw (self_same c x) (none_differ cs xs)

-- A field that the domain's rule computes for block i is good there, under any check mask.
pub given_checks : (d : Domain) (m i g : ℕ) → judged d m i g (computed_field d i g) ≡ None
unfolding judged differing first_bad
given_checks d m i g =
    let f = computed_field d i g in
    rw (none_differ (bytes_in (checked_mask d m f)) (bytes_of f))

-- A set of bytes of the reference tag is empty if it makes no tag bad.
no_set : (set : ℕ) (computed found : ProtectionField) → set < 16 → first_bad set computed found ≡ None → set ≡ 0
unfolding first_bad
no_set set computed found l h = go (ltb 0 (set % 16)) refl (rw (lt-leb 64 set (omega arith), lt-leb 16 (set % 64) (omega arith)) at h)
  where
    go : (b : Bool) → ltb 0 (set % 16) ≡ b → cond b (Some (mismatch Reference set computed found)) None ≡ None → set ≡ 0
    go true e z = let y : ◌≡◌ {A = ℕ} 0 1 = cc in absurd (omega arith)
    go false e z = omega (arith, ltb-false 0 (set % 16) e)

-- The digit of a byte that differs is not 0.
same_byte : (x y : ℕ) → digit (not (eqb x y)) ≡ 0 → x ≡ y
same_byte x y h = go (eqb x y) refl h
  where
    go : (b : Bool) → eqb x y ≡ b → digit (not b) ≡ 0 → x ≡ y
    go true e z = eqb-true x y e
    go false e z = absurd (omega (arith, z))

-- Take a field with the computed guard and application tag, its block not escaped, and all bytes of the reference tag
-- checked. If the field is good, its reference tag is that of block i.
pub checked_reference : (d : Domain) (m i g x : ℕ) → bit m 8 ≡ true → bit m 4 ≡ true → bit m 2 ≡ true → bit m 1 ≡ true
    → let found : ProtectionField = record { guard = g; application = d.application_tag; reference = x } in
    escaped d found ≡ false → judged d m i g found ≡ None → x ≡ reference_tag d i
unfolding judged differing differs mask_of bytes_of computed_field checked_mask
checked_reference d m i g x m8 m4 m2 m1 e h =
    let t = d.application_tag in
    let r = reference_tag d i in
    let a = not (eqb (x / 65536 / 256) (r / 65536 / 256)) in
    let b = not (eqb (x / 65536 % 256) (r / 65536 % 256)) in
    let c = not (eqb (x % 65536 / 256) (r % 65536 / 256)) in
    let f = not (eqb (x % 65536 % 256) (r % 65536 % 256)) in
    let good =
    rw (e, self_same (bit m 128) (g / 256), self_same (bit m 64) (g % 256), self_same (bit m 32) (t / 256), self_same (bit m 16) (t % 256), m8, m4, m2, m1)
    at h in
    let none = no_set ((((0 + digit a) * 2 + digit b) * 2 + digit c) * 2 + digit f) (computed_field d i g) _ (omega (arith, digit_small a, digit_small b, digit_small c, digit_small f)) good in
    omega
    (arith, same_byte (x / 65536 / 256) (r / 65536 / 256) (omega (arith, none)), same_byte (x / 65536 % 256) (r / 65536 % 256) (omega (arith, none)), same_byte (x % 65536 / 256) (r % 65536 / 256) (omega (arith, none)), same_byte (x % 65536 % 256) (r % 65536 % 256) (omega (arith, none)))
