use Rattle.std.proofs.Common.{sym}
use Rattle.wire_well_known.proofs.list_value_view.ListValueViewMessageView.merge_field.Goals as goal

pub returns-in-ListValue-clause-err : goal.returns-in-ListValue-clause-err
returns-in-ListValue-clause-err c =
    rw (sym c.replace.ensures.value) c.merge_held-merged.ensures.err
