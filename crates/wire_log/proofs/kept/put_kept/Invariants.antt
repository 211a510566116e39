use Rattle.std.proofs.Common.{length}
use Rattle.wire_frames.specs.Stream.{unread}
use Rattle.wire_log.proofs.Keeping.{HasKept}
use Rattle.wire_log.proofs.kept.put_kept.Given as goal

abbrev pub invariant-loop-entry : goal.invariant-loop-entry
invariant-loop-entry l = HasKept l.fn.log l.log l.fn.out.items l.out.items
    l.fn.left_out.items l.left_out.items

abbrev pub decreases-loop-entry : goal.decreases-loop-entry
decreases-loop-entry l = length (unread l.log.decoder)
