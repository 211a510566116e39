use Rattle.wire_base.proofs.RopeReads.{LeftToDrop}
use Rattle.wire_base.proofs.rope.buf.drop_front.Given as goal

abbrev pub invariant-loop-left : goal.invariant-loop-left
invariant-loop-left l = LeftToDrop l.fn.segments.items l.cnt l.left l.segments.items

abbrev pub decreases-loop-left : goal.decreases-loop-left
decreases-loop-left l = l.left
