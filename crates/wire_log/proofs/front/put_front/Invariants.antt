use Rattle.std.proofs.Common.{length}
use Rattle.wire_frames.specs.Stream.{unread}
use Rattle.wire_log.proofs.Fronts.{HasPut}
use Rattle.wire_log.proofs.front.put_front.Given as goal

abbrev pub invariant-loop-entry : goal.invariant-loop-entry
invariant-loop-entry l = HasPut l.fn.log.decoder l.log.decoder l.fn.out.items l.out.items

abbrev pub decreases-loop-entry : goal.decreases-loop-entry
decreases-loop-entry l = length (unread l.log.decoder)
