use Rattle.std.proofs.Common.{List, drop, length}
use Rattle.wire_base.specs.Items.{Item}
use Rattle.wire_read.specs.Budget.{read_limits}
use Rattle.wire_read.specs.Reading.{IsAt, at}
use Rattle.wire_dump.proofs.shortest.reader_at_stop.Given as goal

abbrev pub invariant-loop-event : goal.invariant-loop-event
invariant-loop-event l =
    (items : List Item) × IsAt (read_limits l.context) l.fn.bytes items (at l.reader l.fn.bytes)

abbrev pub decreases-loop-event : goal.decreases-loop-event
decreases-loop-event l = length (drop l.reader.place l.fn.bytes)
