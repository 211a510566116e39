use Rattle.std.proofs.Common.{◌+◌, ◌-◌, ◌*◌, drop, length}
use Rattle.wire_read.specs.Reading.{at, limits_in}
use Rattle.wire_dump.specs.Front.{PrintsFront}
use Rattle.wire_dump.proofs.Walk.{Sofar}
use Rattle.wire_dump.proofs.dump.+dump.Given as goal

abbrev pub decreases-put_records : goal.decreases-put_records
decreases-put_records l = 8 * l.layout.budget + 3

abbrev pub decreases-put_item : goal.decreases-put_item
decreases-put_item l = 8 * l.layout.budget + 2

abbrev pub decreases-put_payload : goal.decreases-put_payload
decreases-put_payload l = 8 * l.layout.budget + 1

abbrev pub decreases-put_message : goal.decreases-put_message
decreases-put_message l = 8 * l.layout.budget

abbrev pub decreases-put_guess : goal.decreases-put_guess
decreases-put_guess l = 8 * l.layout.budget + 7

abbrev pub decreases-put_rest : goal.decreases-put_rest
decreases-put_rest l = 8 * l.layout.budget + 6

abbrev pub decreases-put_front : goal.decreases-put_front
decreases-put_front l = 8 * l.layout.budget + 5

abbrev pub decreases-put_record : goal.decreases-put_record
decreases-put_record l = 8 * l.layout.budget + 4

abbrev pub decreases-put_bytes : goal.decreases-put_bytes
decreases-put_bytes l = 8 * l.layout.budget + 3

abbrev pub invariant-put_records-loop-event : goal.invariant-put_records-loop-event
invariant-put_records-loop-event l =
    Sofar l.fn.layout l.fn.place (limits_in l.fn.reader) l.fn.bytes (at l.reader l.fn.bytes)
    l.fn.out.items l.out.items

abbrev pub decreases-put_records-loop-event : goal.decreases-put_records-loop-event
decreases-put_records-loop-event l = length (drop l.reader.place l.fn.bytes)

abbrev pub invariant-put_front-loop-count : goal.invariant-put_front-loop-count
invariant-put_front-loop-count l =
    PrintsFront l.fn.layout l.fn.place l.fn.bytes l.count l.fn.out.items l.out.items

abbrev pub decreases-put_front-loop-count : goal.decreases-put_front-loop-count
decreases-put_front-loop-count l = length l.fn.bytes - l.count
