use Rattle.std.proofs.Common.{sym}
use Rattle.wire_orders.proofs.rebate.RebateMessageFields.merge_field.Goals as goal

pub returns-in-Rebate-clause-err : goal.returns-in-Rebate-clause-err
returns-in-Rebate-clause-err g c =
    rw (sym c.replace.ensures.value) c.merge_held-merged.ensures.err
