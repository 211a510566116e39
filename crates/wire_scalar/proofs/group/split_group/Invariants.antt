use Rattle.std.proofs.Common.{◌≡◌, ◌+◌, length}
use Rattle.wire_base.specs.Charge.{charge}
use Rattle.wire_base.specs.Field.{Fields}
use Rattle.wire_base.specs.Limits.{uncounted}
use Rattle.wire_base.specs.Taken.{TakesFields}
use Rattle.wire_scalar.proofs.group.split_group.Given as goal

abbrev pub invariant-loop-tag : goal.invariant-loop-tag
invariant-loop-tag l = record {
  so_far : (fs : Fields) × TakesFields (charge fs) (uncounted l.depth) fs l.start l.rest;
  len : l.body_len + length l.rest ≡ length l.start;
}

abbrev pub decreases-loop-tag : goal.decreases-loop-tag
decreases-loop-tag l = length l.rest
