use Rattle.std.proofs.Common.{refl, sym, ◌∙◌}
use Rattle.wire_well_known.specs.declared.list_value.ListValue.{ListValue, ListValue-F}
use Rattle.wire_well_known.specs.declared.list_value_view.ListValueView.{fold_out-ListValueView}
use Rattle.wire_well_known.specs.declared.struct_.Struct.{Struct, Struct-F}
use Rattle.wire_well_known.specs.declared.struct_fields_entry.StructFieldsEntry.{StructFieldsEntry}
use Rattle.wire_well_known.specs.declared.struct_fields_entry.StructFieldsEntry.{StructFieldsEntry-F}
use Rattle.wire_well_known.specs.declared.struct_fields_entry_view.StructFieldsEntryView.{fold_out-StructFieldsEntryView}
use Rattle.wire_well_known.specs.declared.struct_fields_entry_view.StructFieldsEntryView.{out-StructFieldsEntryView}
use Rattle.wire_well_known.specs.declared.struct_view.StructView.{fold_out-StructView}
use Rattle.wire_well_known.specs.declared.value.Value.{Value, Value-F}
use Rattle.wire_well_known.specs.declared.value_kind.ValueKind.{ValueKind}
use Rattle.wire_well_known.specs.declared.value_kind.ValueKind.TheFolds.{fold-roll-ListValue}
use Rattle.wire_well_known.specs.declared.value_kind.ValueKind.TheFolds.{fold-roll-Struct}
use Rattle.wire_well_known.specs.declared.value_kind.ValueKind.TheFolds.{fold-roll-StructFieldsEntry}
use Rattle.wire_well_known.specs.declared.value_kind.ValueKind.TheFolds.{fold-roll-Value}
use Rattle.wire_well_known.specs.declared.value_view.ValueView.{fold_out-ValueView, out-ValueView}
use Rattle.wire_well_known.specs.ListValueFamily as family
use Rattle.wire_well_known.proofs.list_value_family_view.+own.Goals as goal

pub owned_list_value-returns-clause-ok : goal.owned_list_value-returns-clause-ok
owned_list_value-returns-clause-ok t c =
    let made : ListValue-F ValueKind ListValue Struct StructFieldsEntry Value = record {
      values = c.in_ok-own_values.own_values;
      unknown = c.in_ok-own_unknown.own_unknown;
    } in
    fold-roll-ListValue family.ValueKind-Held family.Family-Tree family.Family-Tree family.Family-Tree family.Family-Tree family.value_kind-one family.list_value-one family.struct_-one family.struct_fields_entry-one family.value-one made
    ∙ rw (
      c.in_ok-own_values.ensures.ok,
      c.deref.ensures.value,
      c.in_ok-own_unknown.ensures.ok,
      (c.deref-2).ensures.value,
    ) refl
    ∙ sym (fold_out-ListValueView family.ValueKind-Held family.Family-Tree family.Family-Tree family.Family-Tree family.Family-Tree family.value_kind-view_one family.list_value-view_one family.struct_fields_entry-view_one family.struct_-view_one family.value-view_one c.args.view.now)

pub owned_struct_-returns-clause-ok : goal.owned_struct_-returns-clause-ok
owned_struct_-returns-clause-ok t c =
    let made : Struct-F ValueKind ListValue Struct StructFieldsEntry Value = record {
      fields = c.in_ok-own_fields.own_fields;
      unknown = c.in_ok-own_unknown.own_unknown;
    } in
    fold-roll-Struct family.ValueKind-Held family.Family-Tree family.Family-Tree family.Family-Tree family.Family-Tree family.value_kind-one family.list_value-one family.struct_-one family.struct_fields_entry-one family.value-one made
    ∙ rw (
      c.in_ok-own_fields.ensures.ok,
      c.deref.ensures.value,
      c.in_ok-own_unknown.ensures.ok,
      (c.deref-2).ensures.value,
    ) refl
    ∙ sym (fold_out-StructView family.ValueKind-Held family.Family-Tree family.Family-Tree family.Family-Tree family.Family-Tree family.value_kind-view_one family.list_value-view_one family.struct_fields_entry-view_one family.struct_-view_one family.value-view_one c.args.view.now)

pub owned_struct_fields_entry-returns-clause-ok : goal.owned_struct_fields_entry-returns-clause-ok
owned_struct_fields_entry-returns-clause-ok t c =
    let made : StructFieldsEntry-F ValueKind ListValue Struct StructFieldsEntry Value = record {
      key = c.in_ok-own_key.own_key;
      value = c.in_ok-own_value.own_value;
      unknown = c.in_ok-own_unknown.own_unknown;
    } in
    fold-roll-StructFieldsEntry family.ValueKind-Held family.Family-Tree family.Family-Tree family.Family-Tree family.Family-Tree family.value_kind-one family.list_value-one family.struct_-one family.struct_fields_entry-one family.value-one made
    ∙ rw (
      c.in_ok-own_key.ensures.ok,
      family.struct_fields_entry-value-row made made.value refl,
      c.in_ok-own_value.ensures.ok,
      family.struct_fields_entry-value-view_row (out-StructFieldsEntryView c.args.view.now)
          (out-StructFieldsEntryView c.args.view.now).value refl,
      c.in_ok-own_unknown.ensures.ok,
      c.deref.ensures.value,
    ) refl
    ∙ sym (fold_out-StructFieldsEntryView family.ValueKind-Held family.Family-Tree family.Family-Tree family.Family-Tree family.Family-Tree family.value_kind-view_one family.list_value-view_one family.struct_fields_entry-view_one family.struct_-view_one family.value-view_one c.args.view.now)

pub owned_value-returns-clause-ok : goal.owned_value-returns-clause-ok
owned_value-returns-clause-ok t c =
    let made : Value-F ValueKind ListValue Struct StructFieldsEntry Value = record {
      kind = c.in_ok-own_kind.own_kind;
      unknown = c.in_ok-own_unknown.own_unknown;
    } in
    fold-roll-Value family.ValueKind-Held family.Family-Tree family.Family-Tree family.Family-Tree family.Family-Tree family.value_kind-one family.list_value-one family.struct_-one family.struct_fields_entry-one family.value-one made
    ∙ rw (
      family.value-kind-choice made made.kind refl,
      c.in_ok-own_kind.ensures.ok,
      family.value-kind-view_choice (out-ValueView c.args.view.now)
          (out-ValueView c.args.view.now).kind refl,
      c.in_ok-own_unknown.ensures.ok,
      c.deref.ensures.value,
    ) refl
    ∙ sym (fold_out-ValueView family.ValueKind-Held family.Family-Tree family.Family-Tree family.Family-Tree family.Family-Tree family.value_kind-view_one family.list_value-view_one family.struct_fields_entry-view_one family.struct_-view_one family.value-view_one c.args.view.now)
