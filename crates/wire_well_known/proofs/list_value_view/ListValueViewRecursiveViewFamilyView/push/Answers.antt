use Rattle.std.proofs.Common.{◌∙◌}
use Rattle.std.proofs.lemmas.Result.{on_ok_weaker}
use Rattle.wire_fields.specs.Nest.{listed_row, row_pushed}
use Rattle.wire_well_known.specs.ListValueFamily as family
use Rattle.wire_well_known.specs.declared.value_kind_view.ValueKindView.{ValueKindView}
use Rattle.wire_well_known.specs.declared.list_value_view.ListValueView.{ListValueView}
use Rattle.wire_well_known.specs.declared.struct_fields_entry_view.StructFieldsEntryView.{StructFieldsEntryView}
use Rattle.wire_well_known.specs.declared.struct_view.StructView.{StructView}
use Rattle.wire_well_known.specs.declared.value_view.ValueView.{ValueView}
use Rattle.wire_well_known.specs.declared.list_value_view.ListValueView as declared
use Rattle.wire_well_known.specs.declared.value_kind_view.ValueKindView.TheFolds as folds
use Rattle.wire_well_known.proofs.list_value_view.ListValueViewRecursiveViewFamilyView.push.Goals as goal

pub returns-in-0-Value-clause-ok : goal.returns-in-0-Value-clause-ok
returns-in-0-Value-clause-ok c =
    λ here many kind. on_ok_weaker c.push_message.result (λ pushed. rw (
      c.in-0-Value.is-0,
      c.in-0-Value.is-1,
      declared.fold_out-ListValueView family.ValueKind-Held family.Family-Tree family.Family-Tree family.Family-Tree family.Family-Tree family.value_kind-view_one family.list_value-view_one family.struct_fields_entry-view_one family.struct_-view_one family.value-view_one c.args.self.now,
    ) (folds.fold-roll-ListValueView family.ValueKind-Held family.Family-Tree family.Family-Tree family.Family-Tree family.Family-Tree family.value_kind-view_one family.list_value-view_one family.struct_fields_entry-view_one family.struct_-view_one family.value-view_one _
    ∙ row_pushed family.value-view_value 0
    (family.list_value-view_one
    (folds.map-ListValueView ValueKindView ListValueView StructFieldsEntryView StructView ValueView family.ValueKind-Held family.Family-Tree family.Family-Tree family.Family-Tree family.Family-Tree family.value_kind-view_value family.list_value-view_value family.struct_fields_entry-view_value family.struct_-view_value family.value-view_value
    (declared.out-ListValueView c.args.self.now)))
    _ _ c.in-0-Value.message (listed_row _) pushed)) c.push_message.ensures.ok
