use Rattle.std.proofs.Common.{ℕ, List, Ok, drop, length}
use Rattle.wire_base.specs.Room.{in_room}
use Rattle.wire_base.specs.Sink.{Writes}
use Rattle.wire_read.specs.Budget.{read_limits}
use Rattle.wire_write.proofs.Items.{Seen}
use Rattle.wire_write.proofs.shortest.put_all.Given as goal

abbrev pub invariant-loop-event : goal.invariant-loop-event
invariant-loop-event l =
    (text : List ℕ) × Seen (read_limits l.context) l.fn.bytes l.reader text
    × Writes text (in_room l.fn.sink) (in_room l.sink) (Ok tt)

abbrev pub decreases-loop-event : goal.decreases-loop-event
decreases-loop-event l = length (drop l.reader.place l.fn.bytes)
