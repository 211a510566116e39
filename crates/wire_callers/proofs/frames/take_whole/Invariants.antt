use Rattle.std.proofs.Common.{length}
use Rattle.wire_callers.proofs.Chunks.{HasTaken}
use Rattle.wire_frames.specs.Stream.{unread}
use Rattle.wire_callers.proofs.frames.take_whole.Given as goal

abbrev pub invariant-loop-frame : goal.invariant-loop-frame
invariant-loop-frame l = HasTaken l.fn.decoder l.decoder l.fn.frames.items l.frames.items

abbrev pub decreases-loop-frame : goal.decreases-loop-frame
decreases-loop-frame l = length (unread l.decoder)
