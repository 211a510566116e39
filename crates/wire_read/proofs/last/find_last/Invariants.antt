use Rattle.std.proofs.Common.{length}
use Rattle.wire_base.specs.Limits.{uncounted}
use Rattle.wire_read.proofs.LastRecords.{Sofar}
use Rattle.wire_read.proofs.last.find_last.Given as goal

abbrev pub invariant-loop-rest : goal.invariant-loop-rest
invariant-loop-rest l = Sofar l.number (uncounted l.depth) l.fn.bytes l.rest l.last

abbrev pub decreases-loop-rest : goal.decreases-loop-rest
decreases-loop-rest l = length l.rest
