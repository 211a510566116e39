use Rattle.std.proofs.Common.{◌≡◌, length}
use Rattle.wire_dump.specs.Names.{part_behind}
use Rattle.wire_dump.proofs.field_name.last_part.Given as goal

abbrev pub invariant-loop-byte : goal.invariant-loop-byte
invariant-loop-byte l =
    part_behind l.part l.rest ≡ part_behind l.fn.name l.fn.name

abbrev pub decreases-loop-byte : goal.decreases-loop-byte
decreases-loop-byte l = length l.rest
