use Rattle.std.proofs.Common.{◌≡◌, []}
use Rattle.wire_views.specs.Entries.{with_runs}
use Rattle.wire_views.proofs.ordering.last_of_each.Given as goal

abbrev pub invariant-loop-entry : goal.invariant-loop-entry
invariant-loop-entry g l = l.kept.items ≡ with_runs g.K.Ord.cmp [] l.yielded
