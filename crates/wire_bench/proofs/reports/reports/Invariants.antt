use Rattle.std.proofs.Common.{length}
use Rattle.wire_bench.proofs.reports.reports.Given as goal

abbrev pub decreases-loop-rest : goal.decreases-loop-rest
decreases-loop-rest l = length l.rest
