use Rattle.std.proofs.Common.{refl, rules, sym, ◌∙◌}
use Rattle.wire_codec.specs.TagView.{tag_number}
use Rattle.wire_descriptor.specs.EnumOptions.{enum_options-features-kind, enum_options-known}
use Rattle.wire_descriptor.specs.EnumOptions.{enum_options-shape}
use Rattle.wire_fields.specs.Arms.{arm_err, arm_ok, rest_err, unlike}
use Rattle.wire_fields.specs.Shape.{keeps}
use Rattle.wire_descriptor.proofs.enum_options.EnumOptionsMessageFields.merge_field.Goals as goal

pub returns-in-7-clause-err : goal.returns-in-7-clause-err
returns-in-7-clause-err g c =
    arm_err enum_options-shape.takes enum_options-features-kind.kind.takes 7 _
    (sym c.fields-field_number.ensures.number ∙ c.in-7.is) _ _
    (λ charge z p h. (z.0, h.0)) _ _ _
    c.fields-merge.result c.fields-merge.ensures.err

pub returns-in-7-clause-ok : goal.returns-in-7-clause-ok
returns-in-7-clause-ok g c =
    arm_ok enum_options-shape.takes enum_options-features-kind.kind.takes 7 _
    (sym c.fields-field_number.ensures.number ∙ c.in-7.is) _ _ _ _
    (λ charge p h. (h, refl)) _ _ _ _ _
    c.fields-merge.result c.fields-merge.ensures.ok

pub returns-in_default-clause-err : goal.returns-in_default-clause-err
returns-in_default-clause-err g c =
    let n = tag_number c.args.tag in
    rest_err enum_options-known.owns enum_options-known.takes keeps _
    (λ p. unlike n 7 (search rules))
    _ _ _ _ c.fields-keep.result c.fields-keep.ensures.err
