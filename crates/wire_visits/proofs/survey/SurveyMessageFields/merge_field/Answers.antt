use Rattle.std.proofs.Common.{refl, rules, sym, ◌∙◌}
use Rattle.wire_codec.specs.TagView.{tag_number}
use Rattle.wire_fields.specs.Arms.{arm_err, arm_ok, neither, rest_err, unlike}
use Rattle.wire_fields.specs.Shape.{keeps}
use Rattle.wire_visits.specs.Survey.{survey-answers-kind, survey-declined-kind, survey-gaps-kind}
use Rattle.wire_visits.specs.Survey.{survey-known, survey-mood-kind, survey-none-kind}
use Rattle.wire_visits.specs.Survey.{survey-remarks-kind, survey-shape, survey-skipped-kind}
use Rattle.wire_visits.specs.SurveyLast.{survey_last-shape}
use Rattle.wire_visits.proofs.survey.SurveyMessageFields.merge_field.Goals as goal

pub returns-in-1-clause-err : goal.returns-in-1-clause-err
returns-in-1-clause-err g c =
    arm_err survey-shape.takes survey-mood-kind.kind.takes 1 _
    (sym c.fields-field_number.ensures.number ∙ c.in-1.is) _ _
    (λ charge z p h. (z.0.0.0.0, h.0.0.0.0)) _ _ _
    c.fields-merge.result c.fields-merge.ensures.err

pub returns-in-1-clause-ok : goal.returns-in-1-clause-ok
returns-in-1-clause-ok g c =
    arm_ok survey-shape.takes survey-mood-kind.kind.takes 1 _
    (sym c.fields-field_number.ensures.number ∙ c.in-1.is) _ _ _ _
    (λ charge p h. ((((h, refl), refl), refl), refl)) _ _ _ _ _
    c.fields-merge.result c.fields-merge.ensures.ok

pub returns-in-2-clause-err : goal.returns-in-2-clause-err
returns-in-2-clause-err g c =
    arm_err survey-shape.takes survey-answers-kind.kind.takes 2 _
    (sym c.fields-field_number.ensures.number ∙ c.in-2.is) _ _
    (λ charge z p h. (z.0.0.0.1, h.0.0.0.0)) _ _ _
    (c.fields-merge-in-2).result (c.fields-merge-in-2).ensures.err

pub returns-in-2-clause-ok : goal.returns-in-2-clause-ok
returns-in-2-clause-ok g c =
    arm_ok survey-shape.takes survey-answers-kind.kind.takes 2 _
    (sym c.fields-field_number.ensures.number ∙ c.in-2.is) _ _ _ _
    (λ charge p h. ((((h, refl), refl), refl), refl)) _ _ _ _ _
    (c.fields-merge-in-2).result (c.fields-merge-in-2).ensures.ok

pub returns-in-3-clause-err : goal.returns-in-3-clause-err
returns-in-3-clause-err g c =
    arm_err survey-shape.takes survey-remarks-kind.kind.takes 3 _
    (sym c.fields-field_number.ensures.number ∙ c.in-3.is) _ _
    (λ charge z p h. (z.0.0.1.0, h.0.0.0.0)) _ _ _
    (c.fields-merge-in-3).result (c.fields-merge-in-3).ensures.err

pub returns-in-3-clause-ok : goal.returns-in-3-clause-ok
returns-in-3-clause-ok g c =
    arm_ok survey-shape.takes survey-remarks-kind.kind.takes 3 _
    (sym c.fields-field_number.ensures.number ∙ c.in-3.is) _ _ _ _
    (λ charge p h. ((((h, refl), refl), refl), refl)) _ _ _ _ _
    (c.fields-merge-in-3).result (c.fields-merge-in-3).ensures.ok

pub returns-in-4-clause-err : goal.returns-in-4-clause-err
returns-in-4-clause-err g c =
    arm_err survey-shape.takes survey-none-kind.kind.takes 4 _
    (sym c.fields-field_number.ensures.number ∙ c.in-4.is) _ _
    (λ charge z p h. (z.0.0.1.1, h.0.0.0.0)) _ _ _
    (c.fields-merge-in-4).result (c.fields-merge-in-4).ensures.err

pub returns-in-4-clause-ok : goal.returns-in-4-clause-ok
returns-in-4-clause-ok g c =
    arm_ok survey-shape.takes survey-none-kind.kind.takes 4 _
    (sym c.fields-field_number.ensures.number ∙ c.in-4.is) _ _ _ _
    (λ charge p h. ((((h, refl), refl), refl), refl)) _ _ _ _ _
    (c.fields-merge-in-4).result (c.fields-merge-in-4).ensures.ok

pub returns-in-5-clause-err : goal.returns-in-5-clause-err
returns-in-5-clause-err g c =
    arm_err survey-shape.takes survey-declined-kind.kind.takes 5 _
    (sym c.fields-field_number.ensures.number ∙ c.in-5.is) _ _
    (λ charge z p h. (z.0.1.0.0, h.0.0.0.0)) _ _ _
    (c.fields-merge-in-5).result (c.fields-merge-in-5).ensures.err

pub returns-in-5-clause-ok : goal.returns-in-5-clause-ok
returns-in-5-clause-ok g c =
    arm_ok survey-shape.takes survey-declined-kind.kind.takes 5 _
    (sym c.fields-field_number.ensures.number ∙ c.in-5.is) _ _ _ _
    (λ charge p h. ((((h, refl), refl), refl), refl)) _ _ _ _ _
    (c.fields-merge-in-5).result (c.fields-merge-in-5).ensures.ok

pub returns-in-6-clause-err : goal.returns-in-6-clause-err
returns-in-6-clause-err g c =
    arm_err survey-shape.takes survey-gaps-kind.kind.takes 6 _
    (sym c.fields-field_number.ensures.number ∙ c.in-6.is) _ _
    (λ charge z p h. (z.0.1.0.1, h.0.0.0.0)) _ _ _
    (c.fields-merge-in-6).result (c.fields-merge-in-6).ensures.err

pub returns-in-6-clause-ok : goal.returns-in-6-clause-ok
returns-in-6-clause-ok g c =
    arm_ok survey-shape.takes survey-gaps-kind.kind.takes 6 _
    (sym c.fields-field_number.ensures.number ∙ c.in-6.is) _ _ _ _
    (λ charge p h. ((((h, refl), refl), refl), refl)) _ _ _ _ _
    (c.fields-merge-in-6).result (c.fields-merge-in-6).ensures.ok

pub returns-in-7-clause-err : goal.returns-in-7-clause-err
returns-in-7-clause-err g c =
    arm_err survey-shape.takes survey-skipped-kind.kind.takes 7 _
    (sym c.fields-field_number.ensures.number ∙ c.in-7.is) _ _
    (λ charge z p h. (z.0.1.1.0, h.0.0.0.0)) _ _ _
    (c.fields-merge-in-7).result (c.fields-merge-in-7).ensures.err

pub returns-in-7-clause-ok : goal.returns-in-7-clause-ok
returns-in-7-clause-ok g c =
    arm_ok survey-shape.takes survey-skipped-kind.kind.takes 7 _
    (sym c.fields-field_number.ensures.number ∙ c.in-7.is) _ _ _ _
    (λ charge p h. ((((h, refl), refl), refl), refl)) _ _ _ _ _
    (c.fields-merge-in-7).result (c.fields-merge-in-7).ensures.ok

pub returns-in-8-clause-err : goal.returns-in-8-clause-err
returns-in-8-clause-err g c =
    arm_err survey-shape.takes survey_last-shape.takes 8 _
    (sym c.fields-field_number.ensures.number ∙ c.in-8.is) _ _
    (λ charge z p h. (z.0.1.1.1, h.0.0.0.0)) _ _ _
    (c.fields-merge-in-8).result (c.fields-merge-in-8).ensures.err

pub returns-in-8-clause-ok : goal.returns-in-8-clause-ok
returns-in-8-clause-ok g c =
    arm_ok survey-shape.takes survey_last-shape.takes 8 _
    (sym c.fields-field_number.ensures.number ∙ c.in-8.is) _ _ _ _
    (λ charge p h. ((((h, refl), refl), refl), refl)) _ _ _ _ _
    (c.fields-merge-in-8).result (c.fields-merge-in-8).ensures.ok

pub returns-in-9-clause-err : goal.returns-in-9-clause-err
returns-in-9-clause-err g c =
    arm_err survey-shape.takes survey_last-shape.takes 9 _
    (sym c.fields-field_number.ensures.number ∙ c.in-9.is) _ _
    (λ charge z p h. (z.0.1.1.1, h.0.0.0.0)) _ _ _
    (c.fields-merge-in-9).result (c.fields-merge-in-9).ensures.err

pub returns-in-9-clause-ok : goal.returns-in-9-clause-ok
returns-in-9-clause-ok g c =
    arm_ok survey-shape.takes survey_last-shape.takes 9 _
    (sym c.fields-field_number.ensures.number ∙ c.in-9.is) _ _ _ _
    (λ charge p h. ((((h, refl), refl), refl), refl)) _ _ _ _ _
    (c.fields-merge-in-9).result (c.fields-merge-in-9).ensures.ok

pub returns-in-10-clause-err : goal.returns-in-10-clause-err
returns-in-10-clause-err g c =
    arm_err survey-shape.takes survey_last-shape.takes 10 _
    (sym c.fields-field_number.ensures.number ∙ c.in-10.is) _ _
    (λ charge z p h. (z.0.1.1.1, h.0.0.0.0)) _ _ _
    (c.fields-merge-in-10).result (c.fields-merge-in-10).ensures.err

pub returns-in-10-clause-ok : goal.returns-in-10-clause-ok
returns-in-10-clause-ok g c =
    arm_ok survey-shape.takes survey_last-shape.takes 10 _
    (sym c.fields-field_number.ensures.number ∙ c.in-10.is) _ _ _ _
    (λ charge p h. ((((h, refl), refl), refl), refl)) _ _ _ _ _
    (c.fields-merge-in-10).result (c.fields-merge-in-10).ensures.ok

pub returns-in_default-clause-err : goal.returns-in_default-clause-err
returns-in_default-clause-err g c =
    let n = tag_number c.args.tag in
    rest_err survey-known.owns survey-known.takes keeps _
    (λ p. neither _ _ (neither _ _ (neither _ _ (unlike n 1 (search rules))
    (unlike n 2 (search rules)))
    (neither _ _ (unlike n 3 (search rules))
    (unlike n 4 (search rules))))
    (neither _ _ (neither _ _ (unlike n 5 (search rules))
    (unlike n 6 (search rules)))
    (neither _ _ (unlike n 7 (search rules))
    (neither _ _ (neither _ _ (unlike n 8 (search rules))
    (unlike n 9 (search rules)))
    (unlike n 10 (search rules))))))
    _ _ _ _ c.fields-keep.result c.fields-keep.ensures.err
