use Rattle.std.proofs.Common.{sym}
use Rattle.wire_well_known.proofs.value_view.ValueViewMessageView.merge_field.Goals as goal

pub returns-in-Value-clause-err : goal.returns-in-Value-clause-err
returns-in-Value-clause-err c =
    rw (sym c.replace.ensures.value) c.merge_held-merged.ensures.err
