use Rattle.std.proofs.Common.{drop, length}
use Rattle.wire_base.specs.Limits.{counted}
use Rattle.wire_callers.proofs.FieldBytes.{Sofar}
use Rattle.wire_callers.proofs.sums.payload_bytes.Given as goal

abbrev pub invariant-loop-event : goal.invariant-loop-event
invariant-loop-event l = Sofar (counted 100 1000000) l.fn.bytes l.fn.number l.reader l.sum

abbrev pub decreases-loop-event : goal.decreases-loop-event
decreases-loop-event l = length (drop l.reader.place l.fn.bytes)
