-- Answers 1 to 8 and 20 as configure gives them (01, "Numbered answers"; 20 by 02, request 11).
--
--   memory_limit                           the most bytes of a lent memory
--   copy_mask_given                         the attribute flag of a given copy mask
--   bad_block_size n, bad_seed n, bad_flags n a domain's number is bad
--   bad_domain d                           answer 1 applies to a domain
--   bad_edition d                          answer 20 applies to a domain
--   escapes_always d                       answer 2 applies to a domain
--   same_size s, both_signed s              both domains have one block size; both are T10-DIF
--   bad_domains s, bad_editions s, bad_escape_tags s, bad_copy_mask s, unlike_sizes s    answers 1, 20, 2, 3 and 4 apply
--   signature_answer s                     answers 1, 20, 2, 3 and 4
--   layout_answer verdict                  answers 5 to 7
--   configure_answer memory_length c        configure's answer: 8, 1, 20, 2 to 7, or Ok
use Rattle.std.specs.Prelude.{⊤, Result, Err, Bool, ◌&&◌, ◌||◌, not, ℕ, ◌%◌, eqb, ltb, Ok}
use Rattle.field.specs.declared.Domain.{Domain}
use Rattle.field.specs.Tests.{bit}
use Rattle.field.specs.Domains.{t10_dif, block_size_step, block_size_min, block_size_max, guard_type_max, seed_ones}
use Rattle.field.specs.Domains.{escape_by_application_flag, escape_by_both_flag, flags_max}
use Rattle.field.specs.Domains.{edition1, edition2, sector_size}
use Rattle.field.specs.Domains.{signed, escapes_by_application, escapes_by_both}
use Rattle.field.specs.Judging.{escape_application_tag}
use Rattle.layout.specs.declared.layout_rules.LayoutError.{LayoutError}
use Rattle.layout.specs.Answers.{verdict_on}
use Rattle.key.specs.declared.Signature.{Signature}
use Rattle.key.specs.declared.Configuration.{Configuration}
use Rattle.key.specs.Numbers.{Outcome, layout_refusal, refuse, then}
use Rattle.key.specs.declared.refusal.Refusal.TheVariants.{BadDomain, Edition, EscapeTag, CopyMask, BlockSizes}
use Rattle.key.specs.declared.refusal.Refusal.TheVariants.{MemoryLength}

-- A lent memory has at most 16,777,216 bytes.
abbrev pub memory_limit : ℕ
memory_limit = 16777216

-- The attribute flag under which the configured copy mask is used. Other flags are bad.
abbrev pub copy_mask_given : ℕ
copy_mask_given = 1

-- Block size: a multiple of 8 from 8 to 4,160.
abbrev pub bad_block_size : (n : ℕ) → Bool
bad_block_size n = not (eqb (n % block_size_step) 0) || (ltb n block_size_min || ltb block_size_max n)

-- Seed: 0 or 0xFFFF.
abbrev pub bad_seed : (n : ℕ) → Bool
bad_seed n = not (eqb n 0) && not (eqb n seed_ones)

-- Flags 2 and 4 together are bad, and so is any value above 7.
abbrev pub bad_flags : (n : ℕ) → Bool
bad_flags n = ltb flags_max n || (bit n escape_by_application_flag && bit n escape_by_both_flag)

-- Answer 1, of one domain: its kind is not 0 or 1, or it is of kind 1 and block size, guard type, seed or flags are
-- bad.
abbrev pub bad_domain : (d : Domain) → Bool
bad_domain d =
    ltb t10_dif d.kind ||
    (signed d && (bad_block_size d.block_size || (ltb guard_type_max d.guard_type ||
    (bad_seed d.seed || bad_flags d.flags))))

-- Answer 20, of one domain: it is T10-DIF, and its edition is neither 1 nor 2, or it is 2 and the block size is not a
-- multiple of 512.
abbrev pub bad_edition : (d : Domain) → Bool
bad_edition d =
    signed d && ((not (eqb d.edition edition1) && not (eqb d.edition edition2)) ||
    (eqb d.edition edition2 && not (eqb (d.block_size % sector_size) 0)))

-- Answer 2, of one domain: it is T10-DIF with an escape flag and configured application tag 0xFFFF.
abbrev pub escapes_always : (d : Domain) → Bool
escapes_always d =
    signed d && ((escapes_by_application d || escapes_by_both d) && eqb d.application_tag escape_application_tag)

-- Both domains have one block size.
abbrev pub same_size : (s : Signature) → Bool
same_size s = eqb s.memory.block_size s.wire.block_size

-- Both domains are T10-DIF.
abbrev pub both_signed : (s : Signature) → Bool
both_signed s = signed s.memory && signed s.wire

-- Answer 1 applies to a domain, or the attribute flags are not 0 or 1.
abbrev pub bad_domains : (s : Signature) → Bool
bad_domains s = bad_domain s.memory || (bad_domain s.wire || ltb copy_mask_given s.attribute_flags)

-- Answer 20 applies to a domain.
abbrev pub bad_editions : (s : Signature) → Bool
bad_editions s = bad_edition s.memory || bad_edition s.wire

-- Answer 2 applies to a domain.
abbrev pub bad_escape_tags : (s : Signature) → Bool
bad_escape_tags s = escapes_always s.memory || escapes_always s.wire

-- Answer 3: a copy mask is given, and not both domains are T10-DIF with one block size.
abbrev pub bad_copy_mask : (s : Signature) → Bool
bad_copy_mask s = eqb s.attribute_flags copy_mask_given && not (both_signed s && same_size s)

-- Answer 4: both domains are T10-DIF, with different block sizes.
abbrev pub unlike_sizes : (s : Signature) → Bool
unlike_sizes s = both_signed s && not (same_size s)

-- Answers 1, 20, 2, 3 and 4 in this order. Each is tested for both domains before the next.
unfoldable pub signature_answer : (s : Signature) → Outcome
signature_answer s =
    refuse (bad_domains s) BadDomain
    (refuse (bad_editions s) Edition
    (refuse (bad_escape_tags s) EscapeTag
    (refuse (bad_copy_mask s) CopyMask
    (refuse (unlike_sizes s) BlockSizes (Ok tt)))))

-- Answers 5 to 7.
abbrev pub layout_answer : (verdict : Result ⊤ LayoutError) → Outcome
layout_answer (Ok tt) = Ok tt
layout_answer (Err e) = Err (layout_refusal e)

-- Configure's answer for a memory of this length: 8, then 1, 20, 2, 3 and 4, then 5 to 7.
unfoldable pub configure_answer : (memory_length : ℕ) (c : Configuration) → Outcome
configure_answer memory_length c =
    refuse (ltb memory_limit memory_length) MemoryLength
    (then (signature_answer c.signature) (layout_answer (verdict_on c.layout memory_length)))
