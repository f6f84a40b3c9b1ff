use Rattle.std.proofs.Common.{sym, ◌∙◌, length}
use Rattle.key.specs.Admitting.{open_answer}
use Rattle.packets.specs.Sessions.{opened_session}
use Rattle.cstructs.specs.CStructs.{key_from_c}
use Rattle.cstructs.proofs.Laws.{key_back}
use Rattle.capi.specs.Calls.{c_open}
use Rattle.capi.proofs.Calls.{opened}
use Rattle.capi.proofs.session_calls.garoalva_open.Goals as goal

pub returns-in-Ok : goal.returns-in-Ok
unfolding c_open
returns-in-Ok c =
    let a = c.args in
    rw (c.unsealed.ensures, c.from.ensures, sym c.if-not-is_valid.ensures)
    (opened a.key (key_from_c a.key) (opened_session (key_from_c a.key) (record { 0 = a.offset }) a.data_length) c.in-Ok.session
    (open_answer (key_from_c a.key) (length a.memory.now) a.offset a.data_length) (key_back a.key (sym c.if-not-is_valid.ensures)) (c.in-Ok.ensures ∙ rw (c.from-k.ensures, c.new.ensures)))
