use Rattle.std.proofs.Common.{drop, length}
use Rattle.wire_min.specs.Run.{run_limits}
use Rattle.wire_min.proofs.Shortening.{Sofar}
use Rattle.wire_min.proofs.shorten.shorten.Given as goal

abbrev pub invariant-loop-item : goal.invariant-loop-item
invariant-loop-item l = Sofar run_limits l.fn.bytes l.bytes l.reader l.len

abbrev pub decreases-loop-item : goal.decreases-loop-item
decreases-loop-item l = length (drop l.reader.place l.bytes)
