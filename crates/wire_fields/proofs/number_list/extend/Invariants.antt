use Rattle.std.proofs.Common.{length}
use Rattle.wire_fields.proofs.NumberTexts.{Follows}
use Rattle.wire_fields.proofs.number_list.extend.Given as goal

-- the numbers so far are appended
abbrev pub invariant-loop-rest : goal.invariant-loop-rest
invariant-loop-rest g l =
    Follows g.N.Number.form g.N.Number.map l.fn.payload l.fn.values.items l.rest l.values.items

abbrev pub decreases-loop-rest : goal.decreases-loop-rest
decreases-loop-rest g l = length l.rest
