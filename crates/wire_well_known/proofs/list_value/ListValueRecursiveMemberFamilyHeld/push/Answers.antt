use Rattle.std.proofs.Common.{◌∙◌}
use Rattle.std.proofs.lemmas.Result.{on_ok_weaker}
use Rattle.wire_fields.specs.Nest.{listed_row, row_pushed}
use Rattle.wire_well_known.specs.ListValueFamily as family
use Rattle.wire_well_known.specs.declared.value_kind.ValueKind.{ValueKind}
use Rattle.wire_well_known.specs.declared.list_value.ListValue.{ListValue}
use Rattle.wire_well_known.specs.declared.struct_.Struct.{Struct}
use Rattle.wire_well_known.specs.declared.struct_fields_entry.StructFieldsEntry.{StructFieldsEntry}
use Rattle.wire_well_known.specs.declared.value.Value.{Value}
use Rattle.wire_well_known.specs.declared.list_value.ListValue.{out-ListValue, fold_out-ListValue}
use Rattle.wire_well_known.specs.declared.value_kind.ValueKind.TheFolds.{fold-roll-ListValue}
use Rattle.wire_well_known.specs.declared.value_kind.ValueKind.TheFolds.{map-ListValue}
use Rattle.wire_well_known.proofs.list_value.ListValueRecursiveMemberFamilyHeld.push.Goals as goal

pub returns-in-0-Value-clause-ok : goal.returns-in-0-Value-clause-ok
returns-in-0-Value-clause-ok c =
    λ here many kind. on_ok_weaker c.push_message.result (λ pushed. rw (
      c.in-0-Value.is-0,
      c.in-0-Value.is-1,
      fold_out-ListValue family.ValueKind-Held family.Family-Tree family.Family-Tree family.Family-Tree family.Family-Tree family.value_kind-one family.list_value-one family.struct_-one family.struct_fields_entry-one family.value-one c.args.self.now,
    ) (fold-roll-ListValue family.ValueKind-Held family.Family-Tree family.Family-Tree family.Family-Tree family.Family-Tree family.value_kind-one family.list_value-one family.struct_-one family.struct_fields_entry-one family.value-one _
    ∙ row_pushed family.value-value 0
    (family.list_value-one (map-ListValue ValueKind ListValue Struct StructFieldsEntry Value family.ValueKind-Held family.Family-Tree family.Family-Tree family.Family-Tree family.Family-Tree family.value_kind-value family.list_value-value family.struct_-value family.struct_fields_entry-value family.value-value
    (out-ListValue c.args.self.now)))
    _ _ c.in-0-Value.message (listed_row _) pushed)) c.push_message.ensures.ok
