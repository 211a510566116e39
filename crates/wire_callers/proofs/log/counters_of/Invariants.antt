use Rattle.std.proofs.Common.{length}
use Rattle.wire_callers.specs.CounterLog.{ReadsCounters}
use Rattle.wire_callers.proofs.log.counters_of.Given as goal

abbrev pub invariant-loop-buf : goal.invariant-loop-buf
invariant-loop-buf g l =
    ReadsCounters (g.B.Buf.unread l.fn.buf) l.counters.items (g.B.Buf.unread l.buf)

abbrev pub decreases-loop-buf : goal.decreases-loop-buf
decreases-loop-buf g l = length (g.B.Buf.unread l.buf)
