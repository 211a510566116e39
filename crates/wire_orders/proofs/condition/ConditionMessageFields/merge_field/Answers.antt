use Rattle.std.proofs.Common.{sym}
use Rattle.wire_orders.proofs.condition.ConditionMessageFields.merge_field.Goals as goal

pub returns-in-Condition-clause-err : goal.returns-in-Condition-clause-err
returns-in-Condition-clause-err g c =
    rw (sym c.replace.ensures.value) c.merge_held-merged.ensures.err
