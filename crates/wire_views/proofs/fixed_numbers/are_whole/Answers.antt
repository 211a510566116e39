use Rattle.std.proofs.lemmas.Bool.{eqb-true, eqb-false}
use Rattle.wire_views.proofs.FixedWidths.{whole_fixed64, whole_fixed32, no_fixed64s, no_fixed32s}
use Rattle.wire_views.proofs.fixed_numbers.are_whole.Goals as goal

pub returns-in-Fixed64-clause-whole : goal.returns-in-Fixed64-clause-whole
returns-in-Fixed64-clause-whole c =
    rw c.in-Fixed64.is (λ whole. whole_fixed64 c.args.bytes.now (eqb-true _ _ whole))

pub returns-in-Fixed64-clause-part : goal.returns-in-Fixed64-clause-part
returns-in-Fixed64-clause-part c =
    rw c.in-Fixed64.is (λ part other. no_fixed64s c.args.bytes.now (eqb-false _ _ part))

pub returns-in-Fixed32-clause-whole : goal.returns-in-Fixed32-clause-whole
returns-in-Fixed32-clause-whole c =
    rw c.in-Fixed32.is (λ whole. whole_fixed32 c.args.bytes.now (eqb-true _ _ whole))

pub returns-in-Fixed32-clause-part : goal.returns-in-Fixed32-clause-part
returns-in-Fixed32-clause-part c =
    rw c.in-Fixed32.is (λ part other. no_fixed32s c.args.bytes.now (eqb-false _ _ part))
