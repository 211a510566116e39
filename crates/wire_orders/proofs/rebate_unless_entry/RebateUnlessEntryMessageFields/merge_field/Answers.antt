use Rattle.std.proofs.Common.{sym}
use Rattle.wire_orders.proofs.rebate_unless_entry.RebateUnlessEntryMessageFields.merge_field.Goals as goal

pub returns-in-RebateUnlessEntry-clause-err : goal.returns-in-RebateUnlessEntry-clause-err
returns-in-RebateUnlessEntry-clause-err g c =
    rw (sym c.replace.ensures.value) c.merge_held-merged.ensures.err
