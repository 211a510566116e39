use Rattle.std.proofs.Common.{length}
use Rattle.wire_frames.specs.Stream.{unread}
use Rattle.wire_log.proofs.list.Given as goal

abbrev pub decreases-loop-entry : goal.decreases-loop-entry
decreases-loop-entry l = length (unread l.log.decoder)
