use Rattle.std.proofs.Common.{length, ◌-◌}
use Rattle.wire_read.specs.Reading.{at}
use Rattle.wire_page.specs.Batch.{Fills}
use Rattle.wire_page.proofs.events.page_events.Given as goal

abbrev pub invariant-loop-count : goal.invariant-loop-count
invariant-loop-count l = Fills l.fn.bytes (at l.fn.reader l.fn.bytes) (at l.reader l.fn.bytes)
    l.fn.room l.room l.count

abbrev pub decreases-loop-count : goal.decreases-loop-count
decreases-loop-count l = length l.room - l.count
