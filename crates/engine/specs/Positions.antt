-- Where a transfer in progress is: how many bytes were taken and stored, and whether both sides are aligned.
--
--   written r p     how many bytes of the output stream are stored
--   taken r p       how many bytes of the input stream have come
--   Aligned r p     both sides are in the same block and at matching offsets
--   in_step r p      the test of an untrusted progress
use Rattle.std.specs.Prelude.{◌≡◌, Bool, ◌&&◌, ℕ, ◌+◌, ◌*◌, ◌≤◌, min, eqb, ltb, length}
use Rattle.field.specs.Fields.{field_bytes}
use Rattle.engine.specs.declared.Rule.{Rule}
use Rattle.engine.specs.declared.Progress.{Progress}
use Rattle.engine.specs.Streams.{in_block, in_unit, out_unit}

-- How many bytes of the output stream are stored.
abbrev pub written : (r : Rule) (p : Progress) → ℕ
written r p = p.output.index * out_unit r + p.output.at

-- How many bytes of the input stream have come.
abbrev pub taken : (r : Rule) (p : Progress) → ℕ
taken r p = p.input.index * in_unit r + p.input.at

-- Both sides are in the same block and at matching offsets, and the current unit is at most whole.
pub record Aligned (r : Rule) (p : Progress) : Type 0 where
  pub index : p.output.index ≡ p.input.index
  pub at : p.output.at ≡ min p.input.at (in_block r)
  pub within : p.input.at ≤ in_unit r
  pub eight : length p.held ≡ field_bytes

-- The test of an untrusted progress: both sides are aligned, and the current unit is not whole.
unfoldable pub in_step : (r : Rule) (p : Progress) → Bool
in_step r p =
    eqb p.output.index p.input.index
    && (eqb p.output.at (min p.input.at (in_block r)) && ltb p.input.at (in_unit r))
