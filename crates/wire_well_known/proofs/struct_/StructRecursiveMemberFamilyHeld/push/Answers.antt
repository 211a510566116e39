use Rattle.std.proofs.Common.{◌∙◌}
use Rattle.std.proofs.lemmas.Result.{on_ok_weaker}
use Rattle.wire_fields.specs.Nest.{listed_row, row_pushed}
use Rattle.wire_well_known.specs.ListValueFamily as family
use Rattle.wire_well_known.specs.declared.value_kind.ValueKind.{ValueKind}
use Rattle.wire_well_known.specs.declared.list_value.ListValue.{ListValue}
use Rattle.wire_well_known.specs.declared.struct_.Struct.{Struct}
use Rattle.wire_well_known.specs.declared.struct_fields_entry.StructFieldsEntry.{StructFieldsEntry}
use Rattle.wire_well_known.specs.declared.value.Value.{Value}
use Rattle.wire_well_known.specs.declared.struct_.Struct.{out-Struct, fold_out-Struct}
use Rattle.wire_well_known.specs.declared.value_kind.ValueKind.TheFolds.{fold-roll-Struct}
use Rattle.wire_well_known.specs.declared.value_kind.ValueKind.TheFolds.{map-Struct}
use Rattle.wire_well_known.proofs.struct_.StructRecursiveMemberFamilyHeld.push.Goals as goal

pub returns-in-0-StructFieldsEntry-clause-ok : goal.returns-in-0-StructFieldsEntry-clause-ok
returns-in-0-StructFieldsEntry-clause-ok c =
    λ here many kind. on_ok_weaker c.push_message.result (λ pushed. rw (
      c.in-0-StructFieldsEntry.is-0,
      c.in-0-StructFieldsEntry.is-1,
      fold_out-Struct family.ValueKind-Held family.Family-Tree family.Family-Tree family.Family-Tree family.Family-Tree family.value_kind-one family.list_value-one family.struct_-one family.struct_fields_entry-one family.value-one c.args.self.now,
    ) (fold-roll-Struct family.ValueKind-Held family.Family-Tree family.Family-Tree family.Family-Tree family.Family-Tree family.value_kind-one family.list_value-one family.struct_-one family.struct_fields_entry-one family.value-one _
    ∙ row_pushed family.struct_fields_entry-value 0
    (family.struct_-one (map-Struct ValueKind ListValue Struct StructFieldsEntry Value family.ValueKind-Held family.Family-Tree family.Family-Tree family.Family-Tree family.Family-Tree family.value_kind-value family.list_value-value family.struct_-value family.struct_fields_entry-value family.value-value
    (out-Struct c.args.self.now)))
    _ _ c.in-0-StructFieldsEntry.message (listed_row _) pushed)) c.push_message.ensures.ok
