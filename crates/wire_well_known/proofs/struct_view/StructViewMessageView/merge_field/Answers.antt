use Rattle.std.proofs.Common.{sym}
use Rattle.wire_well_known.proofs.struct_view.StructViewMessageView.merge_field.Goals as goal

pub returns-in-Struct-clause-err : goal.returns-in-Struct-clause-err
returns-in-Struct-clause-err c =
    rw (sym c.replace.ensures.value) c.merge_held-merged.ensures.err
