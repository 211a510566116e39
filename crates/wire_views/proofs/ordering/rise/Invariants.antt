use Rattle.std.proofs.Common.{length}
use Rattle.wire_views.specs.Entries.{Rises}
use Rattle.wire_views.proofs.ordering.rise.Given as goal

-- where the rest rises, so do all
abbrev pub invariant-loop-first : goal.invariant-loop-first
invariant-loop-first g l = Rises g.K.Ord.cmp l.rest → Rises g.K.Ord.cmp l.fn.entries

abbrev pub decreases-loop-first : goal.decreases-loop-first
decreases-loop-first g l = length l.rest
