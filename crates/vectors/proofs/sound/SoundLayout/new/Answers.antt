-- A sound layout has few enough pieces to count.
use Rattle.std.proofs.Common.{sym, ◌∙◌}
use Rattle.vectors.proofs.Fits.{few}
use Rattle.vectors.proofs.sound.SoundLayout.new.Goals as goal

pub total-total-requires : goal.total-total-requires
total-total-requires c = few c.args.l (sym c.judge.ensures ∙ c.in-Ok.is)
