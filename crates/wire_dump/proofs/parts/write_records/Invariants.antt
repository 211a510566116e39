use Rattle.std.proofs.Common.{drop, length}
use Rattle.wire_read.specs.Reading.{at, limits_in}
use Rattle.wire_dump.specs.Parts.{InParts}
use Rattle.wire_dump.proofs.Walk.{Sofar}
use Rattle.wire_dump.proofs.parts.write_records.Given as goal

abbrev pub invariant-loop-event : goal.invariant-loop-event
invariant-loop-event g l =
    InParts (g.W.Write.contents l.fn.sink) (g.W.Write.contents l.sink) l.out.items
    (Sofar l.fn.layout l.fn.place (limits_in l.fn.reader) l.fn.bytes (at l.reader l.fn.bytes)
    l.fn.out.items)

abbrev pub decreases-loop-event : goal.decreases-loop-event
decreases-loop-event g l = length (drop l.reader.place l.fn.bytes)
