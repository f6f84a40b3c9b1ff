-- What the inner functions of send require and ensure.
--
--   prefix_layout n                the first n bytes of a buffer as a layout
--   bytes_at memory places n       the bytes at the first n of these places
--   StreamReady, StreamPartly, StreamSent    precondition, invariant and result of `send_stream`
use Rattle.std.specs.Prelude.{◌≡◌, List, ℕ, ◌+◌, ◌-◌, ◌^◌, ◌≤◌, ◌<◌, length, take, drop, replicate, None}
use Rattle.layout.specs.declared.Layout.{Layout}
use Rattle.layout.specs.declared.cursor.Cursor.{Cursor}
use Rattle.layout.specs.Pieces.{entries_max, places, total}
use Rattle.layout.specs.Moves.{gathered, scattered, Placed}
use Rattle.layout.specs.Inner.Cursors.{ahead, InLayout}
use Rattle.slot.specs.Slots.{Slot}
use Rattle.engine.specs.declared.Rule.{Rule}
use Rattle.engine.specs.declared.FeedResult.{FeedResult}
use Rattle.engine.specs.Streams.{in_unit}
use Rattle.engine.specs.Feeding.{begun, fed, emitted}
use Rattle.engine.specs.Inner.Parts.{stream_limit, InStep, Going}

-- The first n bytes of a buffer as a layout.
abbrev pub prefix_layout : (n : ℕ) → Layout
prefix_layout n = record {
  entries = replicate entries_max (record { start = record { 0 = 0 }; count = n; skip = 0 });
  used = 1;
  repeat = 1;
}

-- The bytes at the first n of these places.
abbrev pub bytes_at : (memory places : List ℕ) (n : ℕ) → List ℕ
bytes_at memory ps n = gathered memory (take n ps)

-- What sending n layout bytes from an offset on requires: they lie in memory, and the output has room.
pub record StreamReady (r : Rule) (l : Layout) (memory : List ℕ) (offset n : ℕ) (to : Layout) (wire : ℕ) : Type 0 where
  pub placed : Placed l (length memory)
  pub inside : offset + n ≤ total l
  pub in_step : InStep r (begun r None)
  pub some : 0 < in_unit r
  pub target : Placed to wire
  pub near : Placed to (2 ^ 64 - 1)
  pub room : length (emitted r (begun r None) (bytes_at memory (drop offset (places l)) n)) ≤ total to
  pub small : total to ≤ stream_limit

-- While they are sent: done bytes are fed, and the rest lies ahead of the cursor.
pub record StreamPartly (r : Rule) (l : Layout) (memory : List ℕ) (start : Cursor) (n : ℕ) (to : Layout)
    (first : Cursor) (before : List ℕ) (q : FeedResult) (c : Cursor) (done : ℕ) (mid : List ℕ) : Type 0 where
  pub most : done ≤ n
  pub going :
      Going r (begun r None) to first before (bytes_at memory (ahead l start) n) q mid
      (drop done (bytes_at memory (ahead l start) n))
  pub stands : InLayout l c
  pub on : ahead l c ≡ drop done (ahead l start)

-- What sending them ensures: the first error, and the output in its places.
pub record StreamSent (r : Rule) (l : Layout) (memory : List ℕ) (offset n : ℕ) (to : Layout) (before : List ℕ)
    (found : Slot) (after : List ℕ) : Type 0 where
  pub error : found ≡ (fed r (begun r None) (bytes_at memory (drop offset (places l)) n)).slot
  pub wire :
      after
      ≡ scattered before (places to) (emitted r (begun r None) (bytes_at memory (drop offset (places l)) n))
