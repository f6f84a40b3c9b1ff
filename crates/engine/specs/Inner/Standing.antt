-- Where the engine is after some bytes of the input stream, said by the transfer rule.
--
--   Matched r                        what an accepted configuration gives a rule
--   unit_out r stream i               an output unit, if both sides have one block size
--   running d computes bytes         a domain's running guard over a block's first bytes
--   Reached r slot xs p out          the progress after the bytes xs
--   AllFed r slot stream n p out     the progress after a stream of n units
use Rattle.std.specs.Prelude.{◌≡◌, Bool, true, false, cond, List, [], ◌++◌, ℕ, ◌*◌, ◌≤◌, length, take, drop}
use Rattle.guard.specs.declared.RunningGuard.{RunningGuard}
use Rattle.guard.specs.Guards.{started, advanced}
use Rattle.field.specs.declared.Domain.{Domain}
use Rattle.field.specs.Domains.{block_size_max, seed_ones, signed}
use Rattle.field.specs.Fields.{field_bytes, field_of}
use Rattle.slot.specs.Slots.{Slot, keep}
use Rattle.engine.specs.declared.Rule.{Rule}
use Rattle.engine.specs.declared.Progress.{Progress}
use Rattle.engine.specs.Streams.{in_block, in_unit, out_block, input_block}
use Rattle.engine.specs.Transfers.{joined, field_after, output_stream, first_error}
use Rattle.engine.specs.Feeding.{checks_guard, makes_guard}

-- What an accepted configuration gives a rule: one block size for both sides, and seeds of 16 bits.
pub record Matched (r : Rule) : Type 0 where
  pub same : out_block r ≡ in_block r
  pub some : 1 ≤ in_block r
  pub most : in_block r ≤ block_size_max
  pub in_seed : signed r.input ≡ true → r.input.seed ≤ seed_ones
  pub out_seed : signed r.output ≡ true → r.output.seed ≤ seed_ones

-- An output unit, if both sides have one block size: the block that came in, and its field.
abbrev pub unit_out : (r : Rule) (stream : List ℕ) (i : ℕ) → List ℕ
unit_out r stream i = input_block r stream i ++ field_after r stream i (input_block r stream i)

-- A domain's running guard over a block's first bytes, if it is computed.
abbrev pub running : (d : Domain) (computes : Bool) (bytes : List ℕ) → RunningGuard
running d computes bytes =
    cond computes (advanced d.guard_type (started d.seed) bytes) (started d.seed)

-- The progress p after the bytes xs, with out stored: `past` came as whole units, and `left`, at most a unit, after
-- them.
pub record Reached (r : Rule) (slot : Slot) (xs : List ℕ) (p : Progress) (out : List ℕ) : Type 0 where
  pub past : List ℕ
  pub left : List ℕ
  pub split : xs ≡ past ++ left
  pub past_length : length past ≡ p.input.index * in_unit r
  pub under : length left ≡ p.input.at
  pub within : p.input.at ≤ in_unit r
  pub index : p.output.index ≡ p.input.index
  pub at : p.output.at ≡ length (take (in_block r) left)
  pub in_guard : p.input.guard ≡ running r.input (checks_guard r) (take (in_block r) left)
  pub out_guard : p.output.guard ≡ running r.output (makes_guard r) (take (in_block r) left)
  pub eight : length p.held ≡ field_bytes
  pub held : take (length (drop (in_block r) left)) p.held ≡ drop (in_block r) left
  pub bare : signed r.input ≡ false → field_of p.held ≡ field_of []
  pub error : p.slot ≡ keep slot (first_error r past p.input.index)
  pub shown : out ≡ joined ◌++◌ [] (unit_out r past) 0 p.input.index ++ take (in_block r) left

-- What the engine has stored and recorded once a stream of n units has come.
pub record AllFed (r : Rule) (slot : Slot) (stream : List ℕ) (n : ℕ) (p : Progress) (out : List ℕ) : Type 0 where
  pub input : p.input.index ≡ n
  pub output : p.output.index ≡ n
  pub in_at : p.input.at ≡ 0
  pub out_at : p.output.at ≡ 0
  pub error : p.slot ≡ keep slot (first_error r stream n)
  pub shown : out ≡ output_stream r stream n n
