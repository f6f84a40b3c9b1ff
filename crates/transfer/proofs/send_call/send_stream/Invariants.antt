use Prim.Native.Nat.{◌-◌}
use Rattle.transfer.specs.Inner.SendStream.{StreamPartly}
use Rattle.transfer.proofs.send_call.send_stream.Given as goal

abbrev pub invariant-loop-done : goal.invariant-loop-done
invariant-loop-done l = StreamPartly l.rule l.from l.memory l.initial.c l.n l.to l.initial.p.cursor l.initial.wire l.p l.c l.done l.wire

abbrev pub decreases-loop-done : goal.decreases-loop-done
decreases-loop-done l = l.n - l.done
