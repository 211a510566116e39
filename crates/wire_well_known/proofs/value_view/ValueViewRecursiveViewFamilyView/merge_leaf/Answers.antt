use Rattle.std.proofs.Common.{rules, sym, ◌∙◌}
use Rattle.std.proofs.lemmas.Result.{err_from_is_err_and}
use Rattle.std.specs.Prelude.{Bool, List, string_bytes, ℕ}
use Rattle.wire_codec.specs.EnumValue.{EnumValue}
use Rattle.wire_codec.specs.TagView.{tag_number}
use Rattle.wire_codec.specs.ValueMap.{bool}
use Rattle.wire_fields.specs.Arms.{arm_err, neither, rest_err, unlike, untaken}
use Rattle.wire_fields.specs.Enums.{open_enum}
use Rattle.wire_fields.specs.Floats.{double}
use Rattle.wire_fields.specs.Numbers.{numeric}
use Rattle.wire_fields.specs.Presence.{always}
use Rattle.wire_fields.specs.Shape.{keeps}
use Rattle.wire_fields.specs.Sums.{second_err, second_takes, second_untaken}
use Rattle.wire_fields.specs.Texts.{string}
use Rattle.wire_fields.specs.declared.floats.DoubleBits.{DoubleBits}
use Rattle.wire_fields.specs.declared.form.Form.TheVariants.{Fixed64, Varint}
use Rattle.wire_well_known.specs.ListValueFamily.{value-known, value-leaf}
use Rattle.wire_well_known.specs.NullValue.{null_value-number, null_value-of}
use Rattle.wire_well_known.specs.declared.null_value.NullValue.{NullValue}
use Rattle.wire_well_known.specs.declared.value_view.ValueView.{fold_out-ValueView}
use Rattle.wire_well_known.specs.ListValueFamily as family
use Rattle.wire_well_known.proofs.value_view.ValueViewRecursiveViewFamilyView.merge_leaf.Goals as goal

pub returns-in_err-merge-in-1-clause-err : goal.returns-in_err-merge-in-1-clause-err
returns-in_err-merge-in-1-clause-err c =
    let r = c.from_residual in
    let p = err_from_is_err_and r.result r.ensures.1 in
    rw (p.1, p.2)
    (rw (fold_out-ValueView family.ValueKind-Held family.Family-Tree family.Family-Tree family.Family-Tree family.Family-Tree family.value_kind-view_one family.list_value-view_one family.struct_fields_entry-view_one family.struct_-view_one family.value-view_one c.args.self.now)
    (λ other. second_untaken _ (second_takes (second_takes value-leaf.takes)) _ _ _ _ _
    (second_untaken _ (second_takes value-leaf.takes) _ _ _ _ _
    (second_untaken _ value-leaf.takes _ _ _ _ _
    (untaken value-leaf.takes (always (numeric Varint (open_enum null_value-number null_value-of))).kind.takes 1 _
    (sym c.field_number.ensures.number ∙ c.in-1.is) _ _
    (λ charge z p h. (h.0.0, h.0.1)) _ _ _
    (rw c.empty-value.ensures at (c.in_err-merge-in-1).ensures.err other))))))

pub returns-in_err-merge-in-2-clause-err : goal.returns-in_err-merge-in-2-clause-err
returns-in_err-merge-in-2-clause-err c =
    let r = c.from_residual-in_err-merge-in-2 in
    let p = err_from_is_err_and r.result r.ensures.1 in
    rw (p.1, p.2)
    (rw (fold_out-ValueView family.ValueKind-Held family.Family-Tree family.Family-Tree family.Family-Tree family.Family-Tree family.value_kind-view_one family.list_value-view_one family.struct_fields_entry-view_one family.struct_-view_one family.value-view_one c.args.self.now)
    (λ other. second_untaken _ (second_takes (second_takes value-leaf.takes)) _ _ _ _ _
    (second_untaken _ (second_takes value-leaf.takes) _ _ _ _ _
    (second_untaken _ value-leaf.takes _ _ _ _ _
    (untaken value-leaf.takes (always (numeric Fixed64 double)).kind.takes 2 _
    (sym c.field_number.ensures.number ∙ c.in-2.is) _ _
    (λ charge z p h. (h.0.0, h.0.1)) _ _ _
    (rw (c.empty-value-in-2).ensures at (c.in_err-merge-in-2).ensures.err other))))))

pub returns-in_err-merge-in-3-clause-err : goal.returns-in_err-merge-in-3-clause-err
returns-in_err-merge-in-3-clause-err c =
    let r = c.from_residual-in_err-merge-in-3 in
    let p = err_from_is_err_and r.result r.ensures.1 in
    rw (p.1, p.2)
    (rw (fold_out-ValueView family.ValueKind-Held family.Family-Tree family.Family-Tree family.Family-Tree family.Family-Tree family.value_kind-view_one family.list_value-view_one family.struct_fields_entry-view_one family.struct_-view_one family.value-view_one c.args.self.now)
    (λ other. second_untaken _ (second_takes (second_takes value-leaf.takes)) _ _ _ _ _
    (second_untaken _ (second_takes value-leaf.takes) _ _ _ _ _
    (second_untaken _ value-leaf.takes _ _ _ _ _
    (untaken value-leaf.takes (always string).kind.takes 3 _
    (sym c.field_number.ensures.number ∙ c.in-3.is) _ _
    (λ charge z p h. (h.0.0, h.0.1)) _ _ _
    (rw (c.empty-value-in-3).ensures at (c.in_err-merge-in-3).ensures.err other))))))

pub returns-in_err-merge-in-4-clause-err : goal.returns-in_err-merge-in-4-clause-err
returns-in_err-merge-in-4-clause-err c =
    let r = c.from_residual-in_err-merge-in-4 in
    let p = err_from_is_err_and r.result r.ensures.1 in
    rw (p.1, p.2)
    (rw (fold_out-ValueView family.ValueKind-Held family.Family-Tree family.Family-Tree family.Family-Tree family.Family-Tree family.value_kind-view_one family.list_value-view_one family.struct_fields_entry-view_one family.struct_-view_one family.value-view_one c.args.self.now)
    (λ other. second_untaken _ (second_takes (second_takes value-leaf.takes)) _ _ _ _ _
    (second_untaken _ (second_takes value-leaf.takes) _ _ _ _ _
    (second_untaken _ value-leaf.takes _ _ _ _ _
    (untaken value-leaf.takes (always (numeric Varint bool)).kind.takes 4 _
    (sym c.field_number.ensures.number ∙ c.in-4.is) _ _
    (λ charge z p h. (h.0.0, h.0.1)) _ _ _
    (rw (c.empty-value-in-4).ensures at (c.in_err-merge-in-4).ensures.err other))))))

pub returns-in_default-clause-err : goal.returns-in_default-clause-err
returns-in_default-clause-err c =
    let n = tag_number c.args.tag in
    rw (fold_out-ValueView family.ValueKind-Held family.Family-Tree family.Family-Tree family.Family-Tree family.Family-Tree family.value_kind-view_one family.list_value-view_one family.struct_fields_entry-view_one family.struct_-view_one family.value-view_one c.args.self.now)
    (second_err _ (second_takes (second_takes value-leaf.takes)) _ _ _ _ _ _
    (second_err _ (second_takes value-leaf.takes) _ _ _ _ _ _
    (second_err _ value-leaf.takes _ _ _ _ _ _
    (rest_err value-known.owns value-known.takes keeps _
    (λ p. neither _ _ (neither _ _ (neither _ _ (unlike n 1 (search rules))
    (unlike n 2 (search rules)))
    (unlike n 3 (search rules)))
    (unlike n 4 (search rules)))
    _ _ _ _ c.keep_span.result c.keep_span.ensures.err))))
