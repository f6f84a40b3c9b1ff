-- These laws say what an accepted configuration means for reference tags, and when the reference tag is copied. The laws
-- about the step from block to block are those of the crate `field`.
use mathlib.Core.Path.{◌≡◌, refl, ap, sym, ◌∙◌}
use mathlib.Core.Bool.{Bool, beq, true, false, ◌&&◌, not}
use mathlib.Core.List.{List, [], ◌∷◌}
use mathlib.Core.Logic.{◌⊎◌, inl, inr}
use Prim.Native.Nat.{ℕ, zero, suc, ◌*◌, ◌/◌, ◌%◌, ◌≤◌, ◌<◌}
use native.Mathlib.Nat.{mul_assoc}
use native.Mathlib.Omega.{arith}
use lib.Dec.{eqb}
use lib.ListN.{get_or}
use borrow.Author.Tests.{not-false, eq-eqb, eqb-true}
use Rattle.field.specs.declared.Domain.{Domain}
use Rattle.field.specs.Domains.{edition1, edition2, sector_size, signed, remaps, tag_step, reference_tag}
use Rattle.field.specs.Fields.{computed_field}
use Rattle.field.proofs.TagLaws.{reference_advance, judged_advance, given_checks, checked_reference}
use Rattle.layout.proofs.AnswerLaws.{or_false}
use Rattle.key.specs.Configuring.{bad_edition}
use Rattle.key.proofs.Laws.{configure_done, signature_done}
use Rattle.cstructs.proofs.Laws.{both}
use Rattle.audit.specs.Editions.{AcceptedTags, TagsAccepted, OneCount, TagsGoOn, ChecksGoOn, TagsChecked, ReferencesAgree, ReferenceCopied, EditionExamples}
use Rattle.audit.proofs.Computing.{opened}
use Rattle.audit.proofs.Copying.{copied_bytes}

-- ---- an accepted configuration

-- If answer 20 does not apply to a signed domain, its edition is 1 or 2.
known_edition : (e : ℕ) → not (eqb e edition1) && not (eqb e edition2) ≡ false → (e ≡ edition1) ⊎ (e ≡ edition2)
known_edition e h = go (eqb e edition1) (eqb e edition2) refl refl h
  where
    go : (a b : Bool) → eqb e edition1 ≡ a → eqb e edition2 ≡ b → not a && not b ≡ false → (e ≡ edition1) ⊎ (e ≡ edition2)
    go true b p q z = inl (eqb-true e edition1 p)
    go false true p q z = inr (eqb-true e edition2 q)
    go false false p q z = let y : ◌≡◌ {A = ℕ} 0 1 = cc in absurd (omega arith)

-- If answer 20 does not apply to a signed domain of edition 2, its blocks are whole sectors.
whole_sectors : (e n : ℕ) → eqb e edition2 && not (eqb (n % sector_size) 0) ≡ false → e ≡ edition2 → n % sector_size ≡ 0
whole_sectors e n h s = eqb-true (n % sector_size) 0 (not-false (eqb (n % sector_size) 0) (rw (eq-eqb e edition2 s) at h))

-- The sectors of i blocks of whole sectors.
sectors_of : (i n : ℕ) → n % sector_size ≡ 0 → i * (n / sector_size) ≡ i * n / sector_size
sectors_of i n h =
    let whole : n ≡ n / 512 * 512 = omega (arith, h) in
    omega (arith, ap (λ (x : ℕ). i * x) whole ∙ sym (mul_assoc i (n / 512) 512))

-- If answer 20 does not apply to a signed domain, `AcceptedTags` holds for it.
edition_tags : (d : Domain) → bad_edition d ≡ false → signed d ≡ true → AcceptedTags d
unfolding reference_tag tag_step
edition_tags d h s =
    let f = or_false (not (eqb d.edition edition1) && not (eqb d.edition edition2)) _ (rw s at h) in
    let whole = whole_sectors d.edition d.block_size f.1 in
    record {
      known = known_edition d.edition f.0;
      whole = whole;
      still = λ r i. rw r;
      blocks = λ r e i. rw (r, e) (omega arith);
      sectors = λ r e i. rw (r, e, sectors_of i d.block_size (whole e));
    }

-- The domains of an accepted configuration have known editions, and their tags count blocks or sectors.
pub tags_accepted : TagsAccepted
tags_accepted n c h =
    let g = signature_done c.signature (configure_done n c h).signature in
    (edition_tags c.signature.memory g.memory_edition, edition_tags c.signature.wire g.wire_edition)

-- Edition 2 counts the same whatever the block size.
pub one_count : OneCount
one_count a b s t p q e f same i j at = s.sectors p e i ∙ rw (same, at) (sym (t.sectors q f j))

-- Tags and checks go on from any block.
pub tags_go_on : TagsGoOn
tags_go_on = reference_advance

pub checks_go_on : ChecksGoOn
checks_go_on = judged_advance

-- In a block that is not escaped, with all bytes of the reference tag checked, the tag of block i is good after it, and
-- no other one is.
pub tags-checked : TagsChecked
unfolding computed_field
tags-checked d m i g x all e =
    (checked_reference d m i g x (all 4 (omega arith) (omega arith)) (all 5 (omega arith) (omega arith)) (all 6 (omega arith) (omega arith)) (all 7 (omega arith) (omega arith)) e, λ s. rw s (given_checks d m i g))

-- ---- copying

beq_true : (a b : Bool) → beq a b ≡ true → a ≡ b
beq_true true true h = refl
beq_true false false h = refl
beq_true true false h = let z : ◌≡◌ {A = ℕ} 0 1 = cc in absurd (omega arith)
beq_true false true h = let z : ◌≡◌ {A = ℕ} 0 1 = cc in absurd (omega arith)

beq_same : (a : Bool) → beq a a ≡ true
beq_same true = refl
beq_same false = refl

-- The last four of eight.
last_four : (g t r : Bool) (k : ℕ) → 4 ≤ k → k < 8 → get_or (g ∷ g ∷ t ∷ t ∷ r ∷ r ∷ r ∷ r ∷ []) k false ≡ r
last_four g t r (suc (suc (suc (suc zero)))) h l = refl
last_four g t r (suc (suc (suc (suc (suc zero))))) h l = refl
last_four g t r (suc (suc (suc (suc (suc (suc zero)))))) h l = refl
last_four g t r (suc (suc (suc (suc (suc (suc (suc zero))))))) h l = refl
last_four g t r (suc (suc (suc (suc (suc (suc (suc (suc k)))))))) h l = absurd (omega arith)
last_four g t r zero h l = absurd (omega arith)
last_four g t r (suc zero) h l = absurd (omega arith)
last_four g t r (suc (suc zero)) h l = absurd (omega arith)
last_four g t r (suc (suc (suc zero))) h l = absurd (omega arith)

-- Without a given copy mask, the reference tag is copied exactly if reference tag, remap flag and edition agree.
pub reference_copied : ReferenceCopied
reference_copied mask a b s t k h l =
    let bit = ap (λ (bs : List Bool). get_or bs k false) (copied_bytes mask a b s t) ∙ last_four _ _ _ k h l in
    (λ m. agree (sym bit ∙ m), λ r. bit ∙ rw (eq-eqb a.reference_tag b.reference_tag r.tag, r.remap, beq_same (remaps b), eq-eqb a.edition b.edition r.edition))
  where
    agree : eqb a.reference_tag b.reference_tag && (beq (remaps a) (remaps b) && eqb a.edition b.edition) ≡ true → ReferencesAgree a b
    agree e =
        let f = both (eqb a.reference_tag b.reference_tag) _ e in
        let g = both (beq (remaps a) (remaps b)) (eqb a.edition b.edition) f.1 in
        record {
          tag = eqb-true a.reference_tag b.reference_tag f.0;
          remap = beq_true (remaps a) (remaps b) g.0;
          edition = eqb-true a.edition b.edition g.1;
        }

-- ---- examples

-- The examples are proved by computing them.
pub edition_examples : EditionExamples
unfolding opened
edition_examples = record {
  blocks = refl;
  eight_sectors = refl;
  three_sectors = refl;
  one_sector = refl;
  zero = refl;
  three = refl;
  part_sector = refl;
  part_sector_still = refl;
  accepted = refl;
  largest = refl;
  unsigned = refl;
  bad_domain_first = refl;
  escape_tag_later = refl;
  escape_tag = refl;
  second_by_second = refl;
  first_by_second = refl;
}
