-- What receiving a wire in packets requires, and the invariant of its loop.
--
--   Receivable k memory_length wire_length    the key is configured so, and the wire is whole units that fit
--   session_after k data_length came          the session after the bytes that came
--   memory_with k memory came                memory after them
--   Along k memory wire s rest now          while packets are fed
use Rattle.std.specs.Prelude.{◌≡◌, List, ◌++◌, ℕ, ◌/◌, ◌%◌, ◌≤◌, length, drop, None, Ok}
use Rattle.layout.specs.Pieces.{places}
use Rattle.layout.specs.Moves.{scattered}
use Rattle.key.specs.declared.Key.{Key}
use Rattle.key.specs.Keys.{fresh_key, configure_result}
use Rattle.engine.specs.Feeding.{begun, fed, emitted}
use Rattle.transfer.specs.Rules.{receive_rule}
use Rattle.packets.specs.declared.Session.{Session}
use Rattle.wirecheck.specs.Checking.{wire_max, unit_a, configuration_a}

-- What receiving in packets requires: a key configured so, and a wire of whole units that fits.
pub record Receivable (k : Key) (memory_length wire_length : ℕ) : Type 0 where
  pub key : k ≡ (configure_result fresh_key memory_length configuration_a).key
  pub done : (configure_result fresh_key memory_length configuration_a).outcome ≡ Ok tt
  pub whole : wire_length % unit_a ≡ 0
  pub most : wire_length ≤ wire_max

-- The session after the bytes that came.
abbrev pub session_after : (k : Key) (data_length : ℕ) (came : List ℕ) → Session
session_after k data_length came = record {
  key = k;
  offset = record { 0 = 0 };
  data_length = data_length;
  progress = fed (receive_rule k.signature) (begun (receive_rule k.signature) None) came;
}

-- Memory after the bytes that came.
abbrev pub memory_with : (k : Key) (memory came : List ℕ) → List ℕ
memory_with k memory came =
    scattered memory (drop 0 (places k.layout))
    (emitted (receive_rule k.signature) (begun (receive_rule k.signature) None) came)

-- While packets are fed: what came and what is left are the wire.
pub record Along (k : Key) (memory wire : List ℕ) (s : Session) (rest now : List ℕ) : Type 0 where
  pub came : List ℕ
  pub split : came ++ rest ≡ wire
  pub session : s ≡ session_after k (length wire / 2) came
  pub shown : now ≡ memory_with k memory came
