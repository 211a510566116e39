use Rattle.std.proofs.Common.{drop, length}
use Rattle.wire_dump.proofs.misfit.Before.count.Given as goal

abbrev pub decreases-loop-event : goal.decreases-loop-event
decreases-loop-event l = length (drop l.reader.place l.self.front.now)
