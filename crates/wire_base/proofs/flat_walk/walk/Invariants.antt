use Rattle.std.proofs.Common.{length}
use Rattle.wire_base.proofs.Items.{Walked}
use Rattle.wire_base.proofs.flat_walk.walk.Given as goal

abbrev pub invariant-loop-rest : goal.invariant-loop-rest
invariant-loop-rest l = Walked l.fn.context l.span l.rest l.level l.depth l.bytes l.context

abbrev pub decreases-loop-rest : goal.decreases-loop-rest
decreases-loop-rest l = length l.rest
