use Rattle.std.proofs.Common.{◌≡◌, ◌+◌, ◌*◌, drop, length}
use Rattle.wire_read.specs.Reading.{at, limits_in}
use Rattle.wire_dynamic.specs.Told.{reader_of, root_of, schema_of}
use Rattle.wire_dump.proofs.ShownWalk.{Sofar}
use Rattle.wire_dump.proofs.output.Typed.+typed.Given as goal

abbrev pub decreases-put_message : goal.decreases-put_message
decreases-put_message l = 8 * l.spot.depth + 5

abbrev pub decreases-put_told : goal.decreases-put_told
decreases-put_told l = 8 * l.spot.depth + 4

abbrev pub decreases-put_flat : goal.decreases-put_flat
decreases-put_flat l = 8 * l.spot.depth + 3

abbrev pub decreases-put_record : goal.decreases-put_record
decreases-put_record l = 8 * l.found.now.spot.depth + 2

abbrev pub decreases-put_fitting : goal.decreases-put_fitting
decreases-put_fitting l = 8 * l.found.now.spot.depth + 1

abbrev pub decreases-put_embedded : goal.decreases-put_embedded
decreases-put_embedded l = 8 * l.found.now.spot.depth

abbrev pub invariant-put_message-loop-told : goal.invariant-put_message-loop-told
invariant-put_message-loop-told l =
    Sofar l.fn.self l.fn.spot.depth l.fn.spot.level (root_of l.fn.walk) l.fn.spot.place
    (limits_in (reader_of l.fn.walk)) l.fn.bytes (at (reader_of l.walk) l.fn.bytes)
    l.fn.out.text.items l.fn.out.has_note l.out.text.items l.out.has_note
    × (schema_of l.walk ≡ l.fn.self.schema.now)
    × (root_of l.walk ≡ root_of l.fn.walk)

abbrev pub decreases-put_message-loop-told : goal.decreases-put_message-loop-told
decreases-put_message-loop-told l = length (drop (reader_of l.walk).place l.bytes)
