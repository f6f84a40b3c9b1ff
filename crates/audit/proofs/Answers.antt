-- These laws prove that each call returns the first line of 01's table that applies to it.
use Rattle.std.specs.Prelude.{⊤, Result, None, Ok, Err}
use mathlib.Core.Path.{◌≡◌, refl, ap, ◌∙◌}
use mathlib.Core.Bool.{Bool, true, false, cond}
use mathlib.Core.List.{List, [], ◌∷◌}
use Prim.Native.Nat.{ℕ}
use lib.ListN.{length}
use Rattle.layout.specs.declared.layout_rules.LayoutError.{LayoutError}
use Rattle.layout.specs.declared.layout_rules.LayoutError.TheVariants.{Malformed, Outside, Overlapping}
use Rattle.layout.specs.Answers.{verdict_on}
use Rattle.slot.specs.Slots.{no_error, error_numbers, Slot}
use Rattle.key.specs.declared.Configuration.{Configuration}
use Rattle.key.specs.declared.Key.{Key}
use Rattle.key.specs.Numbers.{Outcome, refusal_number, number, refuse, then}
use Rattle.key.specs.declared.refusal.Refusal.{Refusal}
use Rattle.key.specs.declared.refusal.Refusal.TheVariants.{BadDomain, EscapeTag, CopyMask, BlockSizes, MemoryLength, PartialBlock, PastLayout, ShortWire, LongPacket, BytesToCome, NotConfigured, Edition}
use Rattle.key.specs.Configuring.{signature_answer, layout_answer, configure_answer}
use Rattle.key.specs.Keys.{configure_result_by, check_result}
use Rattle.key.specs.Admitting.{open_answer, transfer_answer}
use Rattle.key.proofs.Laws.{never_zeros}
use Rattle.transfer.specs.Transferring.{answer_of, transfer_result_by, send_result, receive_result}
use Rattle.engine.specs.declared.Progress.{Progress}
use Rattle.packets.specs.declared.Session.{Session}
use Rattle.packets.specs.Sessions.{packet_answer, packet_result_by, packet_result, finish_answer, finish_result_by}
use Rattle.cstructs.specs.CStructs.{configuration_from_c, key_from_c, c_key_valid, session_from_c, c_session_valid}
use Rattle.capi.specs.Calls.{c_configure, c_send, c_receive, c_check, c_open, c_packet, c_finish, c_abandon}
use Rattle.capi.proofs.ThreeCases.{c_api}
use Rattle.audit.specs.Answers.{Line, first_of, configure_lines, open_lines, transfer_lines, packet_lines, finish_lines, NumberedAnswers, CNumberedAnswers}
use Rattle.audit.proofs.CCalls.{by_test}

-- ---- refusals in order are lines in order

-- The number of an outcome is that of the first line.
record Numbered (o : Outcome) (lines : List Line) : Type 0 where
  pub told : number o ≡ first_of lines

-- No test holds.
no_line : Numbered (Ok tt) []
unfolding first_of
no_line = record { told = refl }

-- A refusal before other tests is a line before theirs.
line_first : (r : Refusal) (b : Bool) (rest : Outcome) (lines : List Line) → Numbered rest lines → Numbered (refuse b r rest) (Line.line (refusal_number r) b ∷ lines)
unfolding first_of
line_first r true rest lines m = record { told = refl }
line_first r false rest lines m = record { told = m.told }

-- The same where a second outcome follows the tests.
line_then : (r : Refusal) (b : Bool) (rest second : Outcome) (lines : List Line) → Numbered (then rest second) lines → Numbered (then (refuse b r rest) second) (Line.line (refusal_number r) b ∷ lines)
unfolding first_of
line_then r true rest second lines m = record { told = refl }
line_then r false rest second lines m = record { told = m.told }

-- The same for a verdict before other verdicts.
line_verdict : (v : Result ⊤ LayoutError) (b : Bool) (w : Result ⊤ LayoutError) (lines : List Line) → Numbered (layout_answer w) lines → Numbered (layout_answer (cond b v w)) (Line.line (number (layout_answer v)) b ∷ lines)
unfolding first_of
line_verdict v true w lines m = record { told = refl }
line_verdict v false w lines m = record { told = m.told }

configure_line : (n : ℕ) (c : Configuration) → Numbered (configure_answer n c) (configure_lines n c)
unfolding configure_answer signature_answer verdict_on
configure_line n c =
    line_first MemoryLength _ _ _
    (line_then BadDomain _ _ _ _ (line_then Edition _ _ _ _ (line_then EscapeTag _ _ _ _ (line_then CopyMask _ _ _ _ (line_then BlockSizes _ _ _ _
    (line_verdict (Err Malformed) _ _ _ (line_verdict (Err Outside) _ _ _ (line_verdict (Err Overlapping) _ (Ok tt) _ no_line))))))))

open_line : (k : Key) (n offset data_length : ℕ) → Numbered (open_answer k n offset data_length) (open_lines k n offset data_length)
unfolding open_answer
open_line k n offset data_length = line_first NotConfigured _ _ _ (line_first MemoryLength _ _ _ (line_first PartialBlock _ _ _ (line_first PastLayout _ _ _ no_line)))

transfer_line : (k : Key) (n w offset data_length : ℕ) → Numbered (transfer_answer k n offset data_length w) (transfer_lines k n w offset data_length)
unfolding open_answer transfer_answer
transfer_line k n w offset data_length =
    line_then NotConfigured _ _ _ _ (line_then MemoryLength _ _ _ _ (line_then PartialBlock _ _ _ _ (line_then PastLayout _ _ _ _ (line_first ShortWire _ _ _ no_line))))

packet_line : (s : Session) (n m : ℕ) → Numbered (packet_answer s n m) (packet_lines s n m)
unfolding packet_answer
packet_line s n m = line_first MemoryLength _ _ _ (line_first LongPacket _ _ _ no_line)

finish_line : (s : Session) → Numbered (finish_answer s) (finish_lines s)
unfolding finish_answer
finish_line s = line_first BytesToCome _ _ _ no_line

-- ---- the outcome of a result is the answer

configured_outcome : (k : Key) (n : ℕ) (c : Configuration) (o : Outcome) → (configure_result_by o k n c).outcome ≡ o
configured_outcome k n c (Ok tt) = refl
configured_outcome k n c (Err r) = refl

transferred_outcome : (o : Outcome) (k : Key) (taken written : ℕ) (error : Slot) → (transfer_result_by o k taken written error).outcome ≡ o
transferred_outcome (Ok tt) k taken written error = refl
transferred_outcome (Err r) k taken written error = refl

packet_outcome : (o : Outcome) (s : Session) (p : Progress) → (packet_result_by o s p).outcome ≡ o
packet_outcome (Ok tt) s p = refl
packet_outcome (Err r) s p = refl

finished_outcome : (o : Outcome) (s : Session) → (finish_result_by o s).outcome ≡ o
finished_outcome (Ok tt) s = refl
finished_outcome (Err r) s = refl

-- ---- the statements

-- Check returns zeros on an empty slot.
never_empty : (k : Key) → k.slot ≡ None → (check_result k).error ≡ no_error
unfolding check_result error_numbers
never_empty k e = rw e refl

-- Each call returns the first of its lines.
pub numbered_answers : NumberedAnswers
unfolding send_result receive_result packet_result
numbered_answers = record {
  configure = λ k n c. ap number (configured_outcome k n c (configure_answer n c)) ∙ (configure_line n c).told;
  send = λ k memory wire offset data_length. ap number (transferred_outcome (answer_of k memory wire offset data_length) k _ _ _) ∙ (transfer_line k (length memory) (length wire) offset data_length).told;
  receive = λ k memory wire offset data_length. ap number (transferred_outcome (answer_of k memory wire offset data_length) k _ _ _) ∙ (transfer_line k (length memory) (length wire) offset data_length).told;
  «open» = λ k n offset data_length. (open_line k n offset.0 data_length).told;
  packet = λ s n bytes. ap number (packet_outcome (packet_answer s n (length bytes)) s _) ∙ (packet_line s n (length bytes)).told;
  finish = λ s. ap number (finished_outcome (finish_answer s) s) ∙ (finish_line s).told;
  abandon = λ s. no_line.told;
  check = never_zeros;
}

-- Each call of the C API returns the first of its lines, whether the struct is valid or not.
pub c_numbered_answers : CNumberedAnswers
unfolding c_configure c_send c_receive c_check c_open c_packet c_finish c_abandon first_of
c_numbered_answers = record {
  configure = λ c n new. by_test _ (c_key_valid c) (λ h. rw h (numbered_answers.configure (key_from_c c) n (configuration_from_c new))) (λ h. rw h refl);
  send = λ c memory wire offset data_length. by_test _ (c_key_valid c) (λ h. rw h (numbered_answers.send (key_from_c c) memory wire offset data_length)) (λ h. rw h refl);
  receive = λ c memory wire offset data_length. by_test _ (c_key_valid c) (λ h. rw h (numbered_answers.receive (key_from_c c) memory wire offset data_length)) (λ h. rw h refl);
  «open» = λ c n offset data_length. by_test _ (c_key_valid c) (λ h. rw h (numbered_answers.«open» (key_from_c c) n (record { 0 = offset }) data_length)) (λ h. rw h refl);
  packet = λ c n bytes. by_test _ (c_session_valid c) (λ h. rw h (numbered_answers.packet (session_from_c c) n bytes)) (λ h. rw h refl);
  finish = λ c. by_test _ (c_session_valid c) (λ h. rw h (numbered_answers.finish (session_from_c c))) (λ h. rw h refl);
  abandon = λ c. by_test _ (c_session_valid c) (λ h. rw h refl) (λ h. rw h refl);
  check = λ c. by_test _ (c_key_valid c) (λ h. rw h refl) (λ h. rw h refl);
  zeros = λ c e. by_test _ (c_key_valid c) (λ h. rw (h, never_empty (key_from_c c) ((c_api.valid_key c h).3 e)) refl) (λ h. rw h refl);
}
