-- What each call answers, as a law about a session: the code's proofs go by the definitions and don't cite these.
use Rattle.std.specs.Prelude.{Ok, Err}
use mathlib.Core.Path.{◌≡◌, refl, ◌∙◌}
use mathlib.Core.List.{List}
use Prim.Native.Nat.{ℕ, ◌+◌, ◌<◌}
use native.Mathlib.Omega.{arith}
use lib.ListN.{length}
use borrow.Author.Tests.{lt-ltb, ne_eqb}
use Rattle.layout.specs.declared.cursor.Cursor.{Cursor}
use Rattle.layout.specs.Inner.Cursors.{Walked}
use Rattle.key.specs.declared.refusal.Refusal.{Refusal}
use Rattle.key.specs.declared.refusal.Refusal.TheVariants.{MemoryLength, BytesToCome}
use Rattle.key.specs.Numbers.{Outcome}
use Rattle.engine.specs.declared.FeedResult.{FeedResult}
use Rattle.engine.specs.Positions.{taken, written}
use Rattle.engine.specs.Inner.Parts.{Feeds}
use Rattle.packets.specs.declared.Session.{Session}
use Rattle.packets.specs.Sessions.{rule_of, taken_by, wire_length, packet_answer, with_progress, PacketResult, packet_result, memory_after_packet, finish_answer, FinishResult, finish_result}

-- Packet refuses a wrong memory length with 8.
pub answer_8 : (s : Session) (m n : ℕ) → (m ≡ s.key.memory_length → ⊥) → Err MemoryLength ≡ packet_answer s m n
unfolding packet_answer
answer_8 s m n h = rw (ne_eqb m s.key.memory_length h)

module _ (s : Session) (t w : ℕ) (et : t ≡ taken_by s) (ew : w ≡ wire_length s) where
  -- Finish refuses with 13 while bytes are still to come, and returns the session.
  pub finish_early : t < w → ◌≡◌ {A = FinishResult} (record { outcome = Err BytesToCome; key = s.key; session = s }) (finish_result s)
  unfolding finish_answer
  finish_early h = rw (lt-ltb (taken_by s) (wire_length s) (omega (arith, et, ew)))

module _ (s : Session) (memory bytes : List ℕ) where
  -- A refused packet returns two zeros and the session as it was, and leaves memory as it was.
  pub packet_refused : (o : Outcome) (r : Refusal) → o ≡ packet_answer s (length memory) (length bytes) → o ≡ Err r
      → (◌≡◌ {A = PacketResult} (record { outcome = o; taken = 0; written = 0; session = s }) (packet_result s (length memory) bytes)
      × (memory ≡ memory_after_packet s memory bytes)
      )
  unfolding packet_result memory_after_packet
  packet_refused o r a e = rw (← a, e) (refl, refl)

  -- After its bytes are fed, an accepted packet returns `packet_result` and memory is `memory_after_packet`.
  pub packet_done : packet_answer s (length memory) (length bytes) ≡ Ok tt → (at : Cursor) → Walked s.key.layout (s.offset.0 + written (rule_of s) s.progress) at
      → (f : FeedResult) (after : List ℕ) → Feeds (rule_of s) s.progress s.key.layout at memory bytes f after
      → (◌≡◌ {A = PacketResult} (record { outcome = Ok tt; taken = taken (rule_of s) f.progress; written = written (rule_of s) f.progress; session = with_progress s f.progress }) (packet_result s (length memory) bytes)
      × (after ≡ memory_after_packet s memory bytes)
      )
  unfolding packet_result memory_after_packet
  packet_done e at w f after g = rw (e, g.progress) (refl, g.stored.memory ∙ rw w.on)
