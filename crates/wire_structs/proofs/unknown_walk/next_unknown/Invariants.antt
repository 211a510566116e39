use Rattle.std.proofs.Common.{◌≡◌, length}
use Rattle.wire_base.specs.Charge.{charge}
use Rattle.wire_base.specs.Field.{Fields, none}
use Rattle.wire_base.specs.Limits.{uncounted}
use Rattle.wire_base.specs.Taken.{TakesFields}
use Rattle.wire_structs.specs.Unknown.{unowned}
use Rattle.wire_structs.proofs.unknown_walk.next_unknown.Given as goal

-- the records so far are owned
abbrev pub invariant-loop-front : goal.invariant-loop-front
invariant-loop-front g l =
    (fs : Fields) × TakesFields (charge fs) (uncounted 100) fs l.fn.buf.now l.buf.now
    × (unowned g.M.FieldNumbers.owns fs ≡ none)

abbrev pub decreases-loop-front : goal.decreases-loop-front
decreases-loop-front g l = length l.buf.now
