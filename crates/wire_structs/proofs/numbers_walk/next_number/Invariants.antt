use Rattle.std.proofs.Common.{length}
use Rattle.wire_structs.specs.NumberWalks.{LeadsOn}
use Rattle.wire_structs.proofs.numbers_walk.next_number.Given as goal

-- the walk leads where it did
abbrev pub invariant-loop-walk : goal.invariant-loop-walk
invariant-loop-walk g l =
    LeadsOn g.L.NumberList.takes g.L.NumberList.list g.L.NumberList.form g.L.NumberList.values
    l.fn.walk l.walk

abbrev pub decreases-loop-walk : goal.decreases-loop-walk
decreases-loop-walk g l = length l.walk.bytes.now
