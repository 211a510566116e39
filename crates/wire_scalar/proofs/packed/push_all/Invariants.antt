use Rattle.std.proofs.Common.{◌≡◌, ◌%◌, length}
use Rattle.std.specs.Int.{byte_len}
use Rattle.wire_scalar.proofs.Packing.{Appended}
use Rattle.wire_base.specs.Fixed.{IsFixed}
use Rattle.wire_scalar.proofs.packed.push_all.Given as goal

abbrev pub invariant-loop-rest : goal.invariant-loop-rest
invariant-loop-rest g l = record {
  so_far : Appended
      (IsFixed g.T.FixedScalar.width) g.T.FixedScalar.map l.payload l.rest
      l.fn.out.items l.out.items;
  whole : length l.rest % byte_len g.T.FixedScalar.width ≡ 0;
}

abbrev pub decreases-loop-rest : goal.decreases-loop-rest
decreases-loop-rest g l = length l.rest
