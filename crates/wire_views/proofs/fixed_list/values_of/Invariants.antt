use Rattle.std.proofs.Common.{◌≡◌, ◌++◌, length}
use Rattle.wire_views.specs.FixedNumbers.{values_in}
use Rattle.wire_views.proofs.fixed_list.values_of.Given as goal

-- the values so far, and those that are left
abbrev pub invariant-loop-number : goal.invariant-loop-number
invariant-loop-number g l =
    l.values.items ++ values_in g.N.Number.form g.N.Number.map l.rest
    ≡ values_in g.N.Number.form g.N.Number.map l.fn.payload

abbrev pub decreases-loop-number : goal.decreases-loop-number
decreases-loop-number g l = length l.rest
