use Rattle.std.proofs.Common.{refl, rules, sym, ◌∙◌}
use Rattle.wire_bands.specs.Release.{release-again-kind, release-day-kind, release-known}
use Rattle.wire_bands.specs.Release.{release-notes-kind, release-shape, release-title-kind}
use Rattle.wire_bands.specs.ReleaseMore.{release_more-shape}
use Rattle.wire_codec.specs.TagView.{tag_number}
use Rattle.wire_fields.specs.Arms.{arm_err, arm_ok, neither, rest_err, unlike}
use Rattle.wire_fields.specs.Shape.{keeps}
use Rattle.wire_bands.proofs.release_view.ReleaseViewMessageView.merge_field.Goals as goal

pub returns-in-1-clause-err : goal.returns-in-1-clause-err
returns-in-1-clause-err c =
    arm_err release-shape.takes release-title-kind.kind.takes 1 _
    (sym c.view_fields-field_number.ensures.number ∙ c.in-1.is) _ _
    (λ charge z p h. (z.0.0.0.0, h.0.0.0.0)) _ _ _
    c.view_fields-merge.result c.view_fields-merge.ensures.err

pub returns-in-1-clause-ok : goal.returns-in-1-clause-ok
returns-in-1-clause-ok c =
    arm_ok release-shape.takes release-title-kind.kind.takes 1 _
    (sym c.view_fields-field_number.ensures.number ∙ c.in-1.is) _ _ _ _
    (λ charge p h. ((((h, refl), refl), refl), refl)) _ _ _ _ _
    c.view_fields-merge.result c.view_fields-merge.ensures.ok

pub returns-in-2-clause-err : goal.returns-in-2-clause-err
returns-in-2-clause-err c =
    arm_err release-shape.takes release-day-kind.kind.takes 2 _
    (sym c.view_fields-field_number.ensures.number ∙ c.in-2.is) _ _
    (λ charge z p h. (z.0.0.0.1, h.0.0.0.0)) _ _ _
    (c.view_fields-merge-in-2).result (c.view_fields-merge-in-2).ensures.err

pub returns-in-2-clause-ok : goal.returns-in-2-clause-ok
returns-in-2-clause-ok c =
    arm_ok release-shape.takes release-day-kind.kind.takes 2 _
    (sym c.view_fields-field_number.ensures.number ∙ c.in-2.is) _ _ _ _
    (λ charge p h. ((((h, refl), refl), refl), refl)) _ _ _ _ _
    (c.view_fields-merge-in-2).result (c.view_fields-merge-in-2).ensures.ok

pub returns-in-3-clause-err : goal.returns-in-3-clause-err
returns-in-3-clause-err c =
    arm_err release-shape.takes release-again-kind.kind.takes 3 _
    (sym c.view_fields-field_number.ensures.number ∙ c.in-3.is) _ _
    (λ charge z p h. (z.0.0.1.0, h.0.0.0.0)) _ _ _
    (c.view_fields-merge-in-3).result (c.view_fields-merge-in-3).ensures.err

pub returns-in-3-clause-ok : goal.returns-in-3-clause-ok
returns-in-3-clause-ok c =
    arm_ok release-shape.takes release-again-kind.kind.takes 3 _
    (sym c.view_fields-field_number.ensures.number ∙ c.in-3.is) _ _ _ _
    (λ charge p h. ((((h, refl), refl), refl), refl)) _ _ _ _ _
    (c.view_fields-merge-in-3).result (c.view_fields-merge-in-3).ensures.ok

pub returns-in-4-clause-err : goal.returns-in-4-clause-err
returns-in-4-clause-err c =
    arm_err release-shape.takes release-notes-kind.kind.takes 4 _
    (sym c.view_fields-field_number.ensures.number ∙ c.in-4.is) _ _
    (λ charge z p h. (z.0.0.1.1, h.0.0.0.0)) _ _ _
    (c.view_fields-merge-in-4).result (c.view_fields-merge-in-4).ensures.err

pub returns-in-4-clause-ok : goal.returns-in-4-clause-ok
returns-in-4-clause-ok c =
    arm_ok release-shape.takes release-notes-kind.kind.takes 4 _
    (sym c.view_fields-field_number.ensures.number ∙ c.in-4.is) _ _ _ _
    (λ charge p h. ((((h, refl), refl), refl), refl)) _ _ _ _ _
    (c.view_fields-merge-in-4).result (c.view_fields-merge-in-4).ensures.ok

pub returns-in-5-clause-err : goal.returns-in-5-clause-err
returns-in-5-clause-err c =
    arm_err release-shape.takes release_more-shape.takes 5 _
    (sym c.view_fields-field_number.ensures.number ∙ c.in-5.is) _ _
    (λ charge z p h. (z.0.1, h.0.0)) _ _ _
    (c.view_fields-merge-in-5).result (c.view_fields-merge-in-5).ensures.err

pub returns-in-5-clause-ok : goal.returns-in-5-clause-ok
returns-in-5-clause-ok c =
    arm_ok release-shape.takes release_more-shape.takes 5 _
    (sym c.view_fields-field_number.ensures.number ∙ c.in-5.is) _ _ _ _
    (λ charge p h. ((h, refl), refl)) _ _ _ _ _
    (c.view_fields-merge-in-5).result (c.view_fields-merge-in-5).ensures.ok

pub returns-in-6-clause-err : goal.returns-in-6-clause-err
returns-in-6-clause-err c =
    arm_err release-shape.takes release_more-shape.takes 6 _
    (sym c.view_fields-field_number.ensures.number ∙ c.in-6.is) _ _
    (λ charge z p h. (z.0.1, h.0.0)) _ _ _
    (c.view_fields-merge-in-6).result (c.view_fields-merge-in-6).ensures.err

pub returns-in-6-clause-ok : goal.returns-in-6-clause-ok
returns-in-6-clause-ok c =
    arm_ok release-shape.takes release_more-shape.takes 6 _
    (sym c.view_fields-field_number.ensures.number ∙ c.in-6.is) _ _ _ _
    (λ charge p h. ((h, refl), refl)) _ _ _ _ _
    (c.view_fields-merge-in-6).result (c.view_fields-merge-in-6).ensures.ok

pub returns-in_default-clause-err : goal.returns-in_default-clause-err
returns-in_default-clause-err c =
    let n = tag_number c.args.tag in
    rest_err release-known.owns release-known.takes keeps _
    (λ p. neither _ _ (neither _ _ (neither _ _ (unlike n 1 (search rules))
    (unlike n 2 (search rules)))
    (neither _ _ (unlike n 3 (search rules))
    (unlike n 4 (search rules))))
    (neither _ _ (unlike n 5 (search rules))
    (unlike n 6 (search rules))))
    _ _ _ _ c.view_fields-keep_span.result c.view_fields-keep_span.ensures.err
