-- Laws about keys: what an accepted configure and an accepted open imply, and which keys come from the calls.
use Rattle.std.specs.Prelude.{⊤, Result, Ok, Err}
use mathlib.Core.Path.{◌≡◌, refl, sym}
use mathlib.Core.Bool.{Bool, true, false, ◌&&◌, ◌||◌, not, cond}
use Prim.Native.Nat.{ℕ, ◌+◌, ◌-◌, ◌*◌, ◌/◌, ◌%◌, ◌≤◌, ◌<◌}
use native.Mathlib.Nat.{mul-le-mul_left, div-add-mod'}
use native.Mathlib.Omega.{arith}
use lib.Dec.{eqb, ltb}
use borrow.Author.Tests.{not-false, eqb-true, eqb-false, lt-ltb, le-ltb, ltb-true, ltb-false}
use Rattle.field.specs.declared.Domain.{Domain}
use Rattle.field.specs.declared.ProtectionField.{ProtectionField}
use Rattle.field.specs.Domains.{signed, escapes_by_application, escapes_by_both}
use Rattle.field.specs.Judging.{escaped}
use Rattle.layout.specs.declared.layout_rules.LayoutError.{LayoutError}
use Rattle.layout.specs.Pieces.{total}
use Rattle.layout.specs.Answers.{verdict_on, fits}
use Rattle.layout.proofs.AnswerLaws.{or_false, fits_told}
use Rattle.layout.proofs.CountLaws.{sound_fits}
use Rattle.layout.specs.Inner.Steps.{Fits}
use Rattle.key.specs.declared.Signature.{Signature}
use Rattle.key.specs.declared.Configuration.{Configuration}
use Rattle.key.specs.declared.Key.{Key}
use Rattle.slot.specs.Slots.{Slot, error_numbers}
use Rattle.key.specs.Numbers.{Outcome, refuse, then}
use Rattle.key.specs.declared.refusal.Refusal.{Refusal}
use Rattle.key.specs.declared.refusal.Refusal.TheVariants.{BadDomain, EscapeTag, CopyMask, BlockSizes, MemoryLength, PartialBlock, PastLayout, ShortWire, NotConfigured, Edition}
use Rattle.key.specs.Configuring.{memory_limit, bad_block_size, bad_seed, bad_domain, bad_edition, escapes_always, same_size, bad_domains, bad_editions, bad_escape_tags, bad_copy_mask, unlike_sizes, signature_answer, layout_answer, configure_answer}
use Rattle.key.specs.Inner.Admission.{GoodDomain}
use Rattle.key.specs.Keys.{fresh_key, with_slot, configure_result_by, configure_result, check_result, CameFromCalls, NeverConfiguredZeros, accepts, key_valid, KeyValid}
use Rattle.key.specs.Streams.{stream_length}
use Rattle.key.specs.Inner.Admission.{Sized, Measured}
use Rattle.key.specs.Admitting.{partial, open_answer, transfer_answer}
use Rattle.key.specs.Inner.Admission.{Bounded, Blocks, Admitted}

-- ---- tests

-- `refuse` returns Ok only if its test is false and the rest is Ok.
pub refuse_done : (b : Bool) (r : Refusal) (rest : Outcome) → refuse b r rest ≡ Ok tt → (b ≡ false) × (rest ≡ Ok tt)
refuse_done true r rest h = let z : ◌≡◌ {A = ℕ} 0 1 = cc in absurd (omega arith)
refuse_done false r rest h = (refl, h)

-- An answer is Ok exactly if no test holds: `accepts_refuse` for one test and those after it, `accepts_last` for the
-- last.
pub accepts_refuse : (b : Bool) (r : Refusal) (rest : Outcome) (more : Bool) → accepts rest ≡ not more → accepts (refuse b r rest) ≡ not (b || more)
accepts_refuse true r rest more h = refl
accepts_refuse false r rest more h = h

pub accepts_last : (b : Bool) (r : Refusal) → accepts (refuse b r (Ok tt)) ≡ not b
accepts_last true r = refl
accepts_last false r = refl

-- `then` returns Ok only if both its outcomes are Ok.
then_done : (a b : Outcome) → then a b ≡ Ok tt → (a ≡ Ok tt) × (b ≡ Ok tt)
then_done (Ok tt) b h = (refl, h)
then_done (Err r) b h = let z : ◌≡◌ {A = ℕ} 0 1 = cc in absurd (omega arith)

-- Only a layout without an error has the answer Ok.
layout_done : (v : Result ⊤ LayoutError) → layout_answer v ≡ Ok tt → v ≡ Ok tt
layout_done (Ok tt) h = refl
layout_done (Err e) h = let z : ◌≡◌ {A = ℕ} 0 1 = cc in absurd (omega arith)

-- ---- streams

-- If blocks have 8 bytes or more, the fields of a stream have no more bytes than its data.
pub fields_short : (n b : ℕ) → 8 ≤ b → n / b * 8 ≤ n
fields_short n b h = omega (arith, div-add-mod' n b, mul-le-mul_left (n / b) h)

-- A stream is no shorter than its data.
pub data_in_stream : (d : Domain) (n : ℕ) → n ≤ stream_length d n
unfolding stream_length
data_in_stream d n = go (signed d)
  where
    go : (b : Bool) → n ≤ cond b (n + n / d.block_size * 8) n
    go true = omega arith
    go false = omega arith

-- The code subtracts the stream's length from the total instead of adding it to the offset, and its test has the same
-- result.
pub less_offset : (t s x : ℕ) → s ≤ t → ltb (t - s) x ≡ ltb t (x + s)
less_offset t s x h = go (ltb (t - s) x) refl
  where
    go : (b : Bool) → ltb (t - s) x ≡ b → b ≡ ltb t (x + s)
    go true e = sym (lt-ltb t (x + s) (omega (arith, ltb-true (t - s) x e)))
    go false e = sym (le-ltb t (x + s) (omega (arith, ltb-false (t - s) x e)))

-- ---- an accepted configure

-- `Signs s` says that answers 1, 20, 2 and 4 do not apply to the two domains of the signature.
pub record Signs (s : Signature) : Type 0 where
  pub memory : bad_domain s.memory ≡ false
  pub wire : bad_domain s.wire ≡ false
  pub memory_edition : bad_edition s.memory ≡ false
  pub wire_edition : bad_edition s.wire ≡ false
  pub memory_tag : escapes_always s.memory ≡ false
  pub wire_tag : escapes_always s.wire ≡ false
  pub sizes : unlike_sizes s ≡ false

-- If the answer to a signature is Ok, `Signs` holds for it.
pub signature_done : (s : Signature) → signature_answer s ≡ Ok tt → Signs s
unfolding signature_answer
signature_done s h =
    let first = refuse_done (bad_domains s) BadDomain _ h in
    let edition = refuse_done (bad_editions s) Edition _ first.1 in
    let tag = refuse_done (bad_escape_tags s) EscapeTag _ edition.1 in
    let mask = refuse_done (bad_copy_mask s) CopyMask _ tag.1 in
    let sizes = refuse_done (unlike_sizes s) BlockSizes (Ok tt) mask.1 in
    let m = or_false (bad_domain s.memory) (bad_domain s.wire || ltb 1 s.attribute_flags) first.0 in
    let e = or_false (bad_edition s.memory) (bad_edition s.wire) edition.0 in
    let t = or_false (escapes_always s.memory) (escapes_always s.wire) tag.0 in
    record {
      memory = m.0;
      wire = (or_false (bad_domain s.wire) (ltb 1 s.attribute_flags) m.1).0;
      memory_edition = e.0;
      wire_edition = e.1;
      memory_tag = t.0;
      wire_tag = t.1;
      sizes = sizes.0;
    }

-- `Accepts n c` says that a memory of n bytes is within the limit, the answer to the signature is Ok, and the layout
-- is sound.
pub record Accepts (n : ℕ) (c : Configuration) : Type 0 where
  pub limit : n ≤ memory_limit
  pub signature : signature_answer c.signature ≡ Ok tt
  pub sound : verdict_on c.layout n ≡ Ok tt

-- If configure's answer is Ok, `Accepts` holds for the configuration.
pub configure_done : (n : ℕ) (c : Configuration) → configure_answer n c ≡ Ok tt → Accepts n c
unfolding configure_answer
configure_done n c h =
    let a = refuse_done (ltb memory_limit n) MemoryLength (then (signature_answer c.signature) (layout_answer (verdict_on c.layout n))) h in
    let b = then_done (signature_answer c.signature) (layout_answer (verdict_on c.layout n)) a.1 in
    record { limit = ltb-false memory_limit n a.0; signature = b.0; sound = layout_done (verdict_on c.layout n) b.1 }

-- A seed that is not bad has at most 16 bits.
seed_small : (n : ℕ) → bad_seed n ≡ false → n ≤ 65535
seed_small n h = go (eqb n 0) (eqb n 0xFFFF) refl refl h
  where
    go : (a b : Bool) → eqb n 0 ≡ a → eqb n 0xFFFF ≡ b → not a && not b ≡ false → n ≤ 65535
    go true b e f z = omega (arith, eqb-true n 0 e)
    go false true e f z = omega (arith, eqb-true n 0xFFFF f)
    go false false e f z = let y : ◌≡◌ {A = ℕ} 0 1 = cc in absurd (omega arith)

-- If answer 1 does not apply to a T10-DIF domain, its numbers are in range.
pub good_domain : (d : Domain) → bad_domain d ≡ false → signed d ≡ true → GoodDomain d
good_domain d h s =
    let a = or_false (ltb 1 d.kind) _ h in
    let b = or_false (bad_block_size d.block_size) _ (rw s at a.1) in
    let size = or_false (not (eqb (d.block_size % 8) 0)) _ b.0 in
    let range = or_false (ltb d.block_size 8) (ltb 4160 d.block_size) size.1 in
    let g = or_false (ltb 1 d.guard_type) _ b.1 in
    let t = or_false (bad_seed d.seed) _ g.1 in
    record {
      least = ltb-false d.block_size 8 range.0;
      most = ltb-false 4160 d.block_size range.1;
      eights = eqb-true (d.block_size % 8) 0 (not-false (eqb (d.block_size % 8) 0) size.0);
      guard = ltb-false 1 d.guard_type g.0;
      seed = seed_small d.seed t.0;
    }

-- If answer 1 does not apply to a domain, its blocks are no shorter than their fields.
pub sized : (d : Domain) → bad_domain d ≡ false → Sized d
sized d h s = (good_domain d h s).least

-- ---- keys from the calls

-- Every key from the calls is valid.
pub came_valid : (k : Key) → CameFromCalls k → KeyValid k
unfolding key_valid
came_valid k came = go k.configured refl
  where
    go : (b : Bool) → k.configured ≡ b → key_valid k ≡ true
    go false e = rw e refl
    go true e =
        let g = configure_done k.memory_length (record { signature = k.signature; layout = k.layout }) (came.accepted e) in
        rw (e, le-ltb memory_limit k.memory_length g.limit, g.signature, sound_fits k.layout k.memory_length g.sound) refl

-- `Held k` says that the key's memory is within the limit, its signature is accepted, and its layout fits the memory.
pub record Held (k : Key) : Type 0 where
  pub limit : k.memory_length ≤ memory_limit
  pub signs : Signs k.signature
  pub fits : Fits k.layout k.memory_length
  pub bounded : Bounded k.layout

all_three : (a : Bool) (o : Outcome) (b : Bool) → not a && (accepts o && b) ≡ true → (a ≡ false) × (o ≡ Ok tt) × (b ≡ true)
all_three true o b h = let z : ◌≡◌ {A = ℕ} 0 1 = cc in absurd (omega arith)
all_three false (Err r) b h = let z : ◌≡◌ {A = ℕ} 0 1 = cc in absurd (omega arith)
all_three false (Ok tt) b h = (refl, refl, h)

-- If a valid key is configured, `Held` holds for it.
pub held : (k : Key) → KeyValid k → k.configured ≡ true → Held k
unfolding key_valid
held k u h =
    let t = all_three (ltb memory_limit k.memory_length) (signature_answer k.signature) (fits k.layout k.memory_length) (rw h at u) in
    let f = fits_told k.layout k.memory_length t.2 in
    let l = ltb-false memory_limit k.memory_length t.0 in
    let b : total k.layout ≤ memory_limit = omega (arith, f.small, l) in
    record { limit = l; signs = signature_done k.signature t.1; fits = f; bounded = record { used = f.shaped.used; few = f.shaped.few; small = b } }

-- What the tests of an admission require of a valid key that is configured.
pub memory_sized : (k : Key) → KeyValid k → k.configured ≡ true → Sized k.signature.memory
memory_sized k u h = sized k.signature.memory (held k u h).signs.memory

pub wire_sized : (k : Key) → KeyValid k → k.configured ≡ true → Sized k.signature.wire
wire_sized k u h = sized k.signature.wire (held k u h).signs.wire

pub layout_bounded : (k : Key) → KeyValid k → k.configured ≡ true → Bounded k.layout
layout_bounded k u h = (held k u h).bounded

-- A fresh key is a key from the calls.
pub came_fresh : CameFromCalls fresh_key
came_fresh = record { never = λ h. refl; accepted = λ h. let z : ◌≡◌ {A = ℕ} 0 1 = cc in absurd (omega arith) }

-- If a key is from the calls, so is the key that configure returns for it, accepted or refused.
pub came_configured : (k : Key) (n : ℕ) (c : Configuration) → CameFromCalls k → CameFromCalls (configure_result k n c).key
came_configured k n c came = go (configure_answer n c) refl
  where
    go : (o : Outcome) → configure_answer n c ≡ o → CameFromCalls (configure_result_by o k n c).key
    go (Ok tt) e = record { never = λ h. let z : ◌≡◌ {A = ℕ} 0 1 = cc in absurd (omega arith); accepted = λ h. e }
    go (Err r) e = came

-- If a configured key is from the calls, so is the same key with an error recorded in its slot.
pub came_with_error : (k : Key) (s : Slot) → CameFromCalls k → k.configured ≡ true → CameFromCalls (with_slot k s)
came_with_error k s came h = record { never = λ e. let z : ◌≡◌ {A = ℕ} 0 1 = cc in absurd (omega arith); accepted = came.accepted }

-- If a key is from the calls, so is the key that check returns for it.
pub came_checked : (k : Key) → CameFromCalls k → CameFromCalls (check_result k).key
unfolding check_result
came_checked k came = record { never = λ e. refl; accepted = came.accepted }

-- Check returns zeros on a key that was never configured.
pub never_zeros : NeverConfiguredZeros
unfolding check_result error_numbers
never_zeros k came e = rw (came.never e) refl

-- ---- an accepted open

-- If answers 1 and 9 do not apply to a T10-DIF domain, the data is a whole number of its blocks.
blocks : (d : Domain) (n : ℕ) → bad_domain d ≡ false → partial d n ≡ false → signed d ≡ true → Blocks d n
blocks d n b p s = record { good = good_domain d b s; whole = eqb-true (n % d.block_size) 0 (not-false (eqb (n % d.block_size) 0) (rw s at p)) }

-- If both domains are signed and answer 4 does not apply, they have one block size.
one_size :
    (s : Signature)
    → unlike_sizes s ≡ false
    → signed s.memory ≡ true
    → signed s.wire ≡ true
    → s.memory.block_size ≡ s.wire.block_size
one_size s h m w = eqb-true s.memory.block_size s.wire.block_size (not-false (same_size s) (rw (m, w) at h))

-- If open's answer for a valid key is Ok, `Admitted` holds.
pub admitted : (k : Key) (n x data_length : ℕ) → KeyValid k → open_answer k n x data_length ≡ Ok tt → Admitted k n x data_length
unfolding open_answer
admitted k n x data_length u h =
    let m = k.signature.memory in
    let w = k.signature.wire in
    let a = refuse_done (not k.configured) NotConfigured _ h in
    let b = refuse_done (not (eqb n k.memory_length)) MemoryLength _ a.1 in
    let c = refuse_done (partial m data_length || partial w data_length) PartialBlock _ b.1 in
    let d = refuse_done (ltb (total k.layout) (x + stream_length m data_length)) PastLayout (Ok tt) c.1 in
    let conf = not-false k.configured a.0 in
    let same = eqb-true n k.memory_length (not-false (eqb n k.memory_length) b.0) in
    let whole = or_false (partial m data_length) (partial w data_length) c.0 in
    let g = held k u conf in
    let fits = ltb-false (total k.layout) (x + stream_length m data_length) d.0 in
    record {
      configured = conf;
      lent = same;
      limit = omega (arith, g.limit);
      placed = rw same g.fits.placed;
      bounded = g.bounded;
      inside = fits;
      short = omega (arith, g.bounded.small, data_in_stream m data_length);
      memory = blocks m data_length g.signs.memory whole.0;
      wire = blocks w data_length g.signs.wire whole.1;
      alike = one_size k.signature g.signs.sizes;
    }

-- After an accepted open the length of the wire's stream can be computed.
pub wire_measured :
    (k : Key) (n x data_length : ℕ)
    → KeyValid k
    → open_answer k n x data_length ≡ Ok tt
    → Measured k.signature.wire data_length
wire_measured k n x data_length u h =
    let a = admitted k n x data_length u h in
    record { sized = λ s. (a.wire s).good.least; short = omega (arith, a.short) }

-- If a transfer's answer is Ok, so is open's, and the wire buffer is no shorter than the wire stream.
pub transfer_admitted :
    (k : Key) (n x data_length w : ℕ) → transfer_answer k n x data_length w ≡ Ok tt → (open_answer k n x data_length ≡ Ok tt) × (stream_length k.signature.wire data_length ≤ w)
unfolding transfer_answer
transfer_admitted k n x data_length w h =
    let s = stream_length k.signature.wire data_length in
    let a = then_done (open_answer k n x data_length) (refuse (ltb w s) ShortWire (Ok tt)) h in
    (a.0, ltb-false w s (refuse_done (ltb w s) ShortWire (Ok tt) a.1).0)

-- ---- answer 2 and the escape

-- `Shut d` says of a T10-DIF domain that its application tag is not 0xFFFF if it has an escape flag, and that a block
-- that carries this tag is never escaped.
pub record Shut (d : Domain) : Type 0 where
  pub tag : signed d ≡ true → escapes_by_application d || escapes_by_both d ≡ true → d.application_tag ≡ 0xFFFF → ⊥
  pub never : signed d ≡ true → (found : ProtectionField) → found.application ≡ d.application_tag → escaped d found ≡ false

-- If no escape flag is set where the tag is 0xFFFF, a block with this tag is not escaped.
no_escape : (t a b r : Bool) → (a || b) && t ≡ false → t && (a || (b && r)) ≡ false
no_escape false a b r h = refl
no_escape true true b r h = h
no_escape true false true r h = let z : ◌≡◌ {A = ℕ} 0 1 = cc in absurd (omega arith)
no_escape true false false r h = refl

-- If answer 2 does not apply to a domain, `Shut` holds for it.
shut : (d : Domain) → escapes_always d ≡ false → Shut d
unfolding escaped
shut d h = record {
  tag = λ s e. eqb-false d.application_tag 0xFFFF (rw (s, e) at h);
  never = λ s found e. rw e (no_escape (eqb d.application_tag 0xFFFF) (escapes_by_application d) (escapes_by_both d) (eqb found.reference 0xFFFFFFFF) (rw s at h));
}

-- `Shut` holds for both domains of a configuration that configure accepts.
pub escape_shut : (n : ℕ) (c : Configuration) → configure_answer n c ≡ Ok tt → Shut c.signature.memory × Shut c.signature.wire
escape_shut n c h =
    let g = signature_done c.signature (configure_done n c h).signature in
    (shut c.signature.memory g.memory_tag, shut c.signature.wire g.wire_tag)

-- ---- 01's numbers

-- Block size 4,160 is accepted, and block sizes 4,168, 12 and 0 are refused with answer 1, as 01 says.
pub sizes : (bad_block_size 4160 ≡ false) × (bad_block_size 4168 ≡ true) × (bad_block_size 12 ≡ true) × (bad_block_size 0 ≡ true)
sizes = (refl, refl, refl, refl)

-- Open refuses a key that was never configured with answer 14, whatever else holds.
pub never_configured : (k : Key) (n x data_length : ℕ) → k.configured ≡ false → open_answer k n x data_length ≡ Err NotConfigured
unfolding open_answer
never_configured k n x data_length h = rw h

-- Configure refuses a memory above the limit with answer 8, whatever else holds.
pub above_limit : (n : ℕ) (c : Configuration) → memory_limit < n → configure_answer n c ≡ Err MemoryLength
unfolding configure_answer
above_limit n c h = rw (lt-ltb memory_limit n h)
