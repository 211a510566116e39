use Rattle.std.proofs.Common.{sym}
use Rattle.wire_well_known.proofs.struct_fields_entry_view.StructFieldsEntryViewMessageView.merge_field.Goals as goal

pub returns-in-StructFieldsEntry-clause-err : goal.returns-in-StructFieldsEntry-clause-err
returns-in-StructFieldsEntry-clause-err c =
    rw (sym c.replace.ensures.value) c.merge_held-merged.ensures.err
