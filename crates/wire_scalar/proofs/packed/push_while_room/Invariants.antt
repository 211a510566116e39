use Rattle.std.proofs.Common.{length}
use Rattle.wire_base.specs.Varint.{IsSpelling}
use Rattle.wire_scalar.proofs.Packing.{Appended}
use Rattle.wire_scalar.proofs.packed.push_while_room.Given as goal

abbrev pub invariant-loop-values : goal.invariant-loop-values
invariant-loop-values g l =
    Appended IsSpelling g.T.VarintScalar.map l.payload l.rest l.fn.values.items l.values.items

abbrev pub decreases-loop-values : goal.decreases-loop-values
decreases-loop-values g l = length l.rest
