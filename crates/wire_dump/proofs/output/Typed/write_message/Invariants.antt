use Rattle.std.proofs.Common.{◌≡◌, ℕ, List, drop, length}
use Rattle.wire_read.specs.Reading.{at, limits_in}
use Rattle.wire_dynamic.specs.Told.{reader_of, root_of, schema_of}
use Rattle.wire_dump.specs.Parts.{InParts}
use Rattle.wire_dump.proofs.ShownWalk.{Sofar}
use Rattle.wire_dump.proofs.output.Typed.write_message.Given as goal

abbrev pub invariant-loop-told : goal.invariant-loop-told
invariant-loop-told g l =
    InParts (g.W.Write.contents l.fn.sink) (g.W.Write.contents l.sink) l.out.text.items
    (λ (all : List ℕ). Sofar l.fn.self l.fn.spot.depth l.fn.spot.level (root_of l.fn.walk)
    l.fn.spot.place (limits_in (reader_of l.fn.walk)) l.fn.bytes (at (reader_of l.walk) l.fn.bytes)
    l.fn.out.text.items l.fn.out.has_note all l.out.has_note)
    × (schema_of l.walk ≡ l.fn.self.schema.now)
    × (root_of l.walk ≡ root_of l.fn.walk)

abbrev pub decreases-loop-told : goal.decreases-loop-told
decreases-loop-told g l = length (drop (reader_of l.walk).place l.bytes)
