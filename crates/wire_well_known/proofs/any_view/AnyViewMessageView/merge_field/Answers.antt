use Rattle.std.proofs.Common.{refl, rules, sym, ◌∙◌}
use Rattle.wire_codec.specs.TagView.{tag_number}
use Rattle.wire_fields.specs.Arms.{arm_err, arm_ok, neither, rest_err, unlike}
use Rattle.wire_fields.specs.Shape.{keeps}
use Rattle.wire_well_known.specs.Any.{any-known, any-shape, any-type_url-kind, any-value-kind}
use Rattle.wire_well_known.proofs.any_view.AnyViewMessageView.merge_field.Goals as goal

pub returns-in-1-clause-err : goal.returns-in-1-clause-err
returns-in-1-clause-err c =
    arm_err any-shape.takes any-type_url-kind.kind.takes 1 _
    (sym c.view_fields-field_number.ensures.number ∙ c.in-1.is) _ _
    (λ charge z p h. (z.0.0, h.0.0)) _ _ _
    c.view_fields-merge.result c.view_fields-merge.ensures.err

pub returns-in-1-clause-ok : goal.returns-in-1-clause-ok
returns-in-1-clause-ok c =
    arm_ok any-shape.takes any-type_url-kind.kind.takes 1 _
    (sym c.view_fields-field_number.ensures.number ∙ c.in-1.is) _ _ _ _
    (λ charge p h. ((h, refl), refl)) _ _ _ _ _
    c.view_fields-merge.result c.view_fields-merge.ensures.ok

pub returns-in-2-clause-err : goal.returns-in-2-clause-err
returns-in-2-clause-err c =
    arm_err any-shape.takes any-value-kind.kind.takes 2 _
    (sym c.view_fields-field_number.ensures.number ∙ c.in-2.is) _ _
    (λ charge z p h. (z.0.1, h.0.0)) _ _ _
    (c.view_fields-merge-in-2).result (c.view_fields-merge-in-2).ensures.err

pub returns-in-2-clause-ok : goal.returns-in-2-clause-ok
returns-in-2-clause-ok c =
    arm_ok any-shape.takes any-value-kind.kind.takes 2 _
    (sym c.view_fields-field_number.ensures.number ∙ c.in-2.is) _ _ _ _
    (λ charge p h. ((h, refl), refl)) _ _ _ _ _
    (c.view_fields-merge-in-2).result (c.view_fields-merge-in-2).ensures.ok

pub returns-in_default-clause-err : goal.returns-in_default-clause-err
returns-in_default-clause-err c =
    let n = tag_number c.args.tag in
    rest_err any-known.owns any-known.takes keeps _
    (λ p. neither _ _ (unlike n 1 (search rules))
    (unlike n 2 (search rules)))
    _ _ _ _ c.view_fields-keep_span.result c.view_fields-keep_span.ensures.err
