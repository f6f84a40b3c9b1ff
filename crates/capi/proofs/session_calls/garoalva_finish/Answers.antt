use Rattle.std.proofs.Common.{sym}
use Rattle.cstructs.proofs.Laws.{session_told}
use Rattle.capi.proofs.session_calls.garoalva_finish.Goals as goal

pub finish-requires : goal.finish-requires
finish-requires c =
    rw c.from.ensures (session_told c.args.session (sym c.if-not-is_valid.ensures.valid) c.is_valid.ensures.eight_held)
