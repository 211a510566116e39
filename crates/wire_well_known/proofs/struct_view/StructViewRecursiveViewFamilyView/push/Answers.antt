use Rattle.std.proofs.Common.{◌∙◌}
use Rattle.std.proofs.lemmas.Result.{on_ok_weaker}
use Rattle.wire_fields.specs.Nest.{listed_row, row_pushed}
use Rattle.wire_well_known.specs.ListValueFamily as family
use Rattle.wire_well_known.specs.declared.value_kind_view.ValueKindView.{ValueKindView}
use Rattle.wire_well_known.specs.declared.list_value_view.ListValueView.{ListValueView}
use Rattle.wire_well_known.specs.declared.struct_fields_entry_view.StructFieldsEntryView.{StructFieldsEntryView}
use Rattle.wire_well_known.specs.declared.struct_view.StructView.{StructView}
use Rattle.wire_well_known.specs.declared.value_view.ValueView.{ValueView}
use Rattle.wire_well_known.specs.declared.struct_view.StructView as declared
use Rattle.wire_well_known.specs.declared.value_kind_view.ValueKindView.TheFolds as folds
use Rattle.wire_well_known.proofs.struct_view.StructViewRecursiveViewFamilyView.push.Goals as goal

pub returns-in-0-StructFieldsEntry-clause-ok : goal.returns-in-0-StructFieldsEntry-clause-ok
returns-in-0-StructFieldsEntry-clause-ok c =
    λ here many kind. on_ok_weaker c.push_message.result (λ pushed. rw (
      c.in-0-StructFieldsEntry.is-0,
      c.in-0-StructFieldsEntry.is-1,
      declared.fold_out-StructView family.ValueKind-Held family.Family-Tree family.Family-Tree family.Family-Tree family.Family-Tree family.value_kind-view_one family.list_value-view_one family.struct_fields_entry-view_one family.struct_-view_one family.value-view_one c.args.self.now,
    ) (folds.fold-roll-StructView family.ValueKind-Held family.Family-Tree family.Family-Tree family.Family-Tree family.Family-Tree family.value_kind-view_one family.list_value-view_one family.struct_fields_entry-view_one family.struct_-view_one family.value-view_one _
    ∙ row_pushed family.struct_fields_entry-view_value 0
    (family.struct_-view_one
    (folds.map-StructView ValueKindView ListValueView StructFieldsEntryView StructView ValueView family.ValueKind-Held family.Family-Tree family.Family-Tree family.Family-Tree family.Family-Tree family.value_kind-view_value family.list_value-view_value family.struct_fields_entry-view_value family.struct_-view_value family.value-view_value
    (declared.out-StructView c.args.self.now)))
    _ _ c.in-0-StructFieldsEntry.message (listed_row _) pushed)) c.push_message.ensures.ok
