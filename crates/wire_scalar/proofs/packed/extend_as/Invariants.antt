use Rattle.std.proofs.Common.{length}
use Rattle.wire_base.specs.Varint.{IsSpelling}
use Rattle.wire_scalar.proofs.Packing.{Appended}
use Rattle.wire_scalar.proofs.packed.extend_as.Given as goal

abbrev pub invariant-loop-rest : goal.invariant-loop-rest
invariant-loop-rest g l =
    Appended IsSpelling g.T.VarintScalar.map l.payload l.rest l.fn.out.items l.out.items

abbrev pub decreases-loop-rest : goal.decreases-loop-rest
decreases-loop-rest g l = length l.rest
