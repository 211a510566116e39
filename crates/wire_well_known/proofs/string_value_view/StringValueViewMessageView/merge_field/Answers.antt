use Rattle.std.proofs.Common.{refl, rules, sym, ◌∙◌}
use Rattle.wire_codec.specs.TagView.{tag_number}
use Rattle.wire_fields.specs.Arms.{arm_err, arm_ok, rest_err, unlike}
use Rattle.wire_fields.specs.Shape.{keeps}
use Rattle.wire_well_known.specs.StringValue.{string_value-known, string_value-shape}
use Rattle.wire_well_known.specs.StringValue.{string_value-value-kind}
use Rattle.wire_well_known.proofs.string_value_view.StringValueViewMessageView.merge_field.Goals as goal

pub returns-in-1-clause-err : goal.returns-in-1-clause-err
returns-in-1-clause-err c =
    arm_err string_value-shape.takes string_value-value-kind.kind.takes 1 _
    (sym c.view_fields-field_number.ensures.number ∙ c.in-1.is) _ _
    (λ charge z p h. (z.0, h.0)) _ _ _
    c.view_fields-merge.result c.view_fields-merge.ensures.err

pub returns-in-1-clause-ok : goal.returns-in-1-clause-ok
returns-in-1-clause-ok c =
    arm_ok string_value-shape.takes string_value-value-kind.kind.takes 1 _
    (sym c.view_fields-field_number.ensures.number ∙ c.in-1.is) _ _ _ _
    (λ charge p h. (h, refl)) _ _ _ _ _
    c.view_fields-merge.result c.view_fields-merge.ensures.ok

pub returns-in_default-clause-err : goal.returns-in_default-clause-err
returns-in_default-clause-err c =
    let n = tag_number c.args.tag in
    rest_err string_value-known.owns string_value-known.takes keeps _
    (λ p. unlike n 1 (search rules))
    _ _ _ _ c.view_fields-keep_span.result c.view_fields-keep_span.ensures.err
