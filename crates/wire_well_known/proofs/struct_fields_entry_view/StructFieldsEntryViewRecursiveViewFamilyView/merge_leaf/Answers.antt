use Rattle.std.proofs.Common.{rules, sym, ◌∙◌}
use Rattle.wire_codec.specs.TagView.{tag_number}
use Rattle.wire_fields.specs.Arms.{arm_err, rest_err, unlike}
use Rattle.wire_fields.specs.Shape.{keeps}
use Rattle.wire_fields.specs.Sums.{first_err, first_takes, second_err, second_takes}
use Rattle.wire_well_known.specs.ListValueFamily.{struct_fields_entry-key-kind}
use Rattle.wire_well_known.specs.ListValueFamily.{struct_fields_entry-known}
use Rattle.wire_well_known.specs.ListValueFamily.{struct_fields_entry-leaf}
use Rattle.wire_well_known.specs.declared.struct_fields_entry_view.StructFieldsEntryView.{fold_out-StructFieldsEntryView}
use Rattle.wire_well_known.specs.ListValueFamily as family
use Rattle.wire_well_known.proofs.struct_fields_entry_view.StructFieldsEntryViewRecursiveViewFamilyView.merge_leaf.Goals as goal

pub returns-in-1-clause-err : goal.returns-in-1-clause-err
returns-in-1-clause-err c =
    rw (fold_out-StructFieldsEntryView family.ValueKind-Held family.Family-Tree family.Family-Tree family.Family-Tree family.Family-Tree family.value_kind-view_one family.list_value-view_one family.struct_fields_entry-view_one family.struct_-view_one family.value-view_one c.args.self.now)
    (second_err _ (second_takes (first_takes struct_fields_entry-leaf.takes)) _ _ _ _ _ _
    (second_err _ (first_takes struct_fields_entry-leaf.takes) _ _ _ _ _ _
    (first_err _ struct_fields_entry-leaf.takes _ _ _ _ _ _
    (arm_err struct_fields_entry-leaf.takes struct_fields_entry-key-kind.kind.takes 1 _
    (sym c.view_fields-field_number.ensures.number ∙ c.in-1.is) _ _
    (λ charge z p h. (z.0, h.0)) _ _ _
    c.view_fields-merge.result c.view_fields-merge.ensures.err))))

pub returns-in_default-clause-err : goal.returns-in_default-clause-err
returns-in_default-clause-err c =
    let n = tag_number c.args.tag in
    rw (fold_out-StructFieldsEntryView family.ValueKind-Held family.Family-Tree family.Family-Tree family.Family-Tree family.Family-Tree family.value_kind-view_one family.list_value-view_one family.struct_fields_entry-view_one family.struct_-view_one family.value-view_one c.args.self.now)
    (second_err _ (second_takes (first_takes struct_fields_entry-leaf.takes)) _ _ _ _ _ _
    (second_err _ (first_takes struct_fields_entry-leaf.takes) _ _ _ _ _ _
    (first_err _ struct_fields_entry-leaf.takes _ _ _ _ _ _
    (rest_err struct_fields_entry-known.owns struct_fields_entry-known.takes keeps _
    (λ p. unlike n 1 (search rules))
    _ _ _ _ c.view_fields-keep_span.result c.view_fields-keep_span.ensures.err))))
