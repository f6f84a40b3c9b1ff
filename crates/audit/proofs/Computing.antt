-- The laws that are proved by computing share a list of definitions that they open, and tests that they compute.
use mathlib.Core.Path.{◌≡◌}
use mathlib.Core.Bool.{Bool, true, ◌&&◌}
use mathlib.Core.List.{List, [], ◌∷◌}
use Prim.Native.Nat.{ℕ, zero, suc, ◌<◌}
use native.Mathlib.Omega.{arith}
use lib.Dec.{ltb}
use borrow.Author.Tests.{ltb-true}
use Rattle.crc.specs.Crc.{times_x, crc_byte, crc}
use Rattle.guard.specs.Checksum.{◌⊕◌, words, ones_sum}
use Rattle.guard.specs.Guards.{Bytes, guard_of}
use Rattle.field.specs.Domains.{tag_step, reference_tag}
use Rattle.field.specs.Fields.{bytes_of, field_of, computed_field}
use Rattle.field.specs.Judging.{escaped, checked_mask, differs, mask_of, differing, first_bad, judged}
use Rattle.field.specs.Output.{agreed, copy_mask, merged, output_field}
use Rattle.slot.specs.Slots.{error_numbers}
use Rattle.layout.specs.Pieces.{repeats, size, numbers_from, places_of}
use Rattle.layout.specs.Moves.{gathered, scattered}
use Rattle.layout.specs.Answers.{some_count_zero, malformed, some_beyond, shares_with, some_share, verdict_on}
use Rattle.key.specs.Configuring.{signature_answer, configure_answer}
use Rattle.key.specs.Keys.{check_result}
use Rattle.key.specs.Streams.{stream_length}
use Rattle.key.specs.Admitting.{open_answer, transfer_answer}
use Rattle.engine.specs.Streams.{block_size, field_size, input_block, input_field}
use Rattle.engine.specs.Transfers.{joined, data_of, output_block, field_after, output_stream, slot_of, error_by, first_error}
use Rattle.transfer.specs.Transferring.{send_result, wire_after_send, receive_result, memory_after_receive}
use Rattle.cstructs.proofs.Laws.{both}
use Rattle.audit.proofs.Ranges.{none_below, next_below}

-- A law with `opened` on its `unfolding` line opens the definitions of configure, of a transfer and of check.
unfoldable pub opened : Unit {0}
unfolding times_x crc_byte crc ◌⊕◌ words ones_sum guard_of tag_step reference_tag bytes_of field_of computed_field escaped checked_mask differs mask_of differing first_bad judged agreed copy_mask merged output_field repeats size numbers_from places_of gathered scattered some_count_zero malformed some_beyond shares_with some_share verdict_on signature_answer configure_answer error_numbers check_result stream_length open_answer transfer_answer block_size field_size input_block input_field joined data_of output_block field_after output_stream slot_of error_by first_error send_result wire_after_send receive_result memory_after_receive
opened = tt

-- The test `small` is true if all numbers of a list are below 256.
unfoldable pub small : List ℕ → Bool
small [] = true
small (x ∷ xs) = ltb x 256 && small xs

-- The elements of a list that passes this test are bytes.
pub small_bytes : (xs : List ℕ) → small xs ≡ true → Bytes xs
unfolding small
small_bytes [] e i = omega arith
small_bytes (x ∷ xs) e zero = ltb-true x 256 (both (ltb x 256) (small xs) e).0
small_bytes (x ∷ xs) e (suc i) = small_bytes xs (both (ltb x 256) (small xs) e).1 i

-- The test `all_below test m` is true if `test` is true of all numbers below m.
unfoldable pub all_below : (test : ℕ → Bool) (m : ℕ) → Bool
all_below test zero = true
all_below test (suc m) = test m && all_below test m

-- A test that is true of all numbers below m is true of each of them.
pub below_true : (test : ℕ → Bool) (m : ℕ) → all_below test m ≡ true → (n : ℕ) → n < m → test n ≡ true
unfolding all_below
below_true test zero e = none_below (λ (n : ℕ). test n ≡ true)
below_true test (suc m) e =
    let t = both (test m) (all_below test m) e in
    next_below (λ (n : ℕ). test n ≡ true) m (below_true test m t.1) t.0
