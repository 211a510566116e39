use Rattle.std.proofs.Common.{◌+◌, length}
use Rattle.wire_dump.proofs.ShownPacked.{Sofar}
use Rattle.wire_dump.proofs.output.Typed.put_packed.Given as goal

abbrev pub invariant-loop-rest : goal.invariant-loop-rest
invariant-loop-rest l =
    Sofar l.fn.self l.fn.found.spot.level l.fn.found.event.number l.fn.found.spot.place
    (l.fn.found.spot.place + length l.fn.found.text.now) l.fn.found.field.now l.wire_type
    l.fn.payload l.rest l.fn.out.text.items l.fn.out.has_note l.out

abbrev pub decreases-loop-rest : goal.decreases-loop-rest
decreases-loop-rest l = length l.rest
