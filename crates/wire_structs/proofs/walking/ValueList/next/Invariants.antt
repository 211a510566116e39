use Rattle.std.proofs.Common.{length}
use Rattle.wire_structs.proofs.WalkLemmas.{SoFar}
use Rattle.wire_structs.proofs.walking.ValueList.next.Given as goal

abbrev pub invariant-loop-buf : goal.invariant-loop-buf
invariant-loop-buf g l =
    SoFar g.Self.ValueList.takes g.Self.ValueList.list (g.Self.Source.Buf.unread l.fn.buf)
    (g.Self.Source.Buf.unread l.buf)

abbrev pub decreases-loop-buf : goal.decreases-loop-buf
decreases-loop-buf g l = length (g.Self.Source.Buf.unread l.buf)
