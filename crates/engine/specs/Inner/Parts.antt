-- What the engine's code does with a part of the input stream: bytes that all lie in one block's data or in one field.
--
--   stream_limit, count_limit           bounds within which bytes and units are counted
--   guard_taken, side_taken, data_taken, field_taken, part_taken    guard, side and progress after a part
--   part_shown r p part                what is stored of a part as it arrives
--   InStep r p                        both sides are aligned, under a rule from an accepted configuration
--   Room, Feedable, Feeds, Settled, Arrives, Holds, Countable, OnePart, Going, Unsigned    contracts
use Rattle.std.specs.Prelude.{◌≡◌, Bool, false, cond, List, [], ℕ, ◌+◌, ◌-◌, ◌*◌, ◌≤◌, ◌<◌, ◌^◌, ltb, length}
use Rattle.std.proofs.lemmas.List.Edits.{sets}
use Rattle.guard.specs.declared.RunningGuard.{RunningGuard}
use Rattle.guard.specs.Guards.{advanced}
use Rattle.field.specs.declared.Domain.{Domain}
use Rattle.field.specs.Domains.{block_size_max, signed}
use Rattle.field.specs.Fields.{field_bytes}
use Rattle.layout.specs.declared.Layout.{Layout}
use Rattle.layout.specs.declared.cursor.Cursor.{Cursor}
use Rattle.layout.specs.Moves.{Placed}
use Rattle.layout.specs.Inner.Cursors.{ahead, InLayout, Stored, Storing}
use Rattle.engine.specs.declared.Rule.{Rule}
use Rattle.engine.specs.declared.Side.{Side}
use Rattle.engine.specs.declared.Progress.{Progress}
use Rattle.engine.specs.declared.FeedResult.{FeedResult}
use Rattle.engine.specs.Streams.{in_block, in_unit}
use Rattle.engine.specs.Feeding.{checks_guard, makes_guard, fed, emitted, settled, placed}
use Rattle.engine.specs.Positions.{written, Aligned}
use Rattle.engine.specs.Inner.Standing.{Matched}

-- Above the length of every stream: memory has at most 2^24 bytes, and the wire at most twice that, since a block of 8
-- bytes or more has a field of 8.
abbrev pub stream_limit : ℕ
stream_limit = 2 ^ 26

-- Above the bytes of as many units: 2^26 units of at most 4,168 bytes. Products below it can't wrap in 64 bits.
abbrev pub count_limit : ℕ
count_limit = 2 ^ 40

-- A guard after some data bytes.
abbrev pub guard_taken : (d : Domain) (computes : Bool) (g : RunningGuard) (part : List ℕ) → RunningGuard
guard_taken d computes g xs = cond computes (advanced d.guard_type g xs) g

-- A side after them.
abbrev pub side_taken : (d : Domain) (computes : Bool) (s : Side) (part : List ℕ) → Side
side_taken d computes s xs =
    record { index = s.index; at = s.at + length xs; guard = guard_taken d computes s.guard xs }

-- The progress after some data bytes of one block.
abbrev pub data_taken : (r : Rule) (p : Progress) (part : List ℕ) → Progress
data_taken r p xs = record {
  input = side_taken r.input (checks_guard r) p.input xs;
  output = side_taken r.output (makes_guard r) p.output xs;
  held = p.held;
  slot = p.slot;
}

-- The progress after some bytes of one field.
abbrev pub field_taken : (r : Rule) (p : Progress) (part : List ℕ) → Progress
field_taken r p xs = record {
  input = record { index = p.input.index; at = p.input.at + length xs; guard = p.input.guard };
  output = p.output;
  held = sets p.held (p.input.at - in_block r) xs;
  slot = p.slot;
}

-- The progress after a part.
abbrev pub part_taken : (r : Rule) (p : Progress) (part : List ℕ) → Progress
part_taken r p xs = cond (ltb p.input.at (in_block r)) (data_taken r p xs) (field_taken r p xs)

-- What is stored of a part as it arrives.
abbrev pub part_shown : (r : Rule) (p : Progress) (part : List ℕ) → List ℕ
part_shown r p xs = cond (ltb p.input.at (in_block r)) xs []

-- Both sides are aligned, under a rule from an accepted configuration.
pub record InStep (r : Rule) (p : Progress) : Type 0 where
  pub matched : Matched r
  pub aligned : Aligned r p

-- `more` bytes fit ahead of the cursor, and all that could be stored can be counted.
pub record Room (r : Rule) (p : Progress) (l : Layout) (c : Cursor) (memory more : ℕ) : Type 0 where
  pub placed : Placed l memory
  pub stands : InLayout l c
  pub fits : more ≤ length (ahead l c)
  pub small : written r p + length (ahead l c) ≤ stream_limit

-- What feeding requires: both sides in step, a unit that is not whole, and room for what is stored.
pub record Feedable (r : Rule) (p : Progress) (l : Layout) (c : Cursor) (memory : ℕ) (bytes : List ℕ) : Type 0 where
  pub in_step : InStep r p
  pub begun : p.input.at < in_unit r
  pub room : Room r p l c memory (length (emitted r p bytes))

-- What feeding ensures: the engine's progress, and its output stored ahead of the cursor.
pub record Feeds (r : Rule) (p : Progress) (l : Layout) (c : Cursor) (before bytes : List ℕ)
    (f : FeedResult) (after : List ℕ) : Type 0 where
  pub progress : f.progress ≡ fed r p bytes
  pub stored : Stored l c before (emitted r p bytes) f.cursor after

-- What closing a unit ensures.
pub record Settled (r : Rule) (p : Progress) (l : Layout) (c : Cursor) (before : List ℕ)
    (f : FeedResult) (after : List ℕ) : Type 0 where
  pub progress : f.progress ≡ settled r p
  pub stored : Stored l c before (placed r p) f.cursor after

-- What taking a part ensures.
pub record Arrives (r : Rule) (p : Progress) (l : Layout) (c : Cursor) (before part : List ℕ)
    (f : FeedResult) (after : List ℕ) : Type 0 where
  pub progress : f.progress ≡ part_taken r p part
  pub stored : Stored l c before (part_shown r p part) f.cursor after

-- What holding `more` field bytes requires.
pub record Holds (r : Rule) (p : Progress) (more : ℕ) : Type 0 where
  pub field : in_block r ≤ p.input.at
  pub fits : p.input.at + more ≤ in_block r + field_bytes
  pub small : in_block r ≤ block_size_max
  pub eight : length p.held ≡ field_bytes

-- The units so far can be counted, and the current one begins at an offset of 32 bits.
pub record Countable (r : Rule) (p : Progress) : Type 0 where
  pub input : p.input.index ≤ stream_limit
  pub output : p.output.index ≤ stream_limit
  pub begins : p.input.index * in_unit r < 2 ^ 32

-- n bytes all lie in the current block's data, or all in its field.
pub record OnePart (r : Rule) (p : Progress) (n : ℕ) : Type 0 where
  pub block : p.input.at < in_block r → p.input.at + n ≤ in_block r
  pub unit : p.input.at + n ≤ in_unit r

-- While bytes are fed: feeding the rest gives what feeding all bytes gives.
pub record Going (r : Rule) (p : Progress) (l : Layout) (c : Cursor) (before bytes : List ℕ)
    (q : FeedResult) (mid rest : List ℕ) : Type 0 where
  pub in_step : InStep r q.progress
  pub begun : q.progress.input.at < in_unit r
  pub progress : fed r q.progress rest ≡ fed r p bytes
  pub storing : Storing l c before (emitted r p bytes) q.cursor mid (emitted r q.progress rest)
  pub placed : Placed l (length mid)
  pub small : written r q.progress + length (ahead l q.cursor) ≤ stream_limit

-- Neither side is signed.
pub record Unsigned (r : Rule) : Type 0 where
  pub input : signed r.input ≡ false
  pub output : signed r.output ≡ false
