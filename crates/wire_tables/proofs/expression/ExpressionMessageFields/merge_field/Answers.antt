use Rattle.std.proofs.Common.{sym}
use Rattle.wire_tables.proofs.expression.ExpressionMessageFields.merge_field.Goals as goal

pub returns-in-Expression-clause-err : goal.returns-in-Expression-clause-err
returns-in-Expression-clause-err g c =
    rw (sym c.replace.ensures.value) c.merge_held-merged.ensures.err
