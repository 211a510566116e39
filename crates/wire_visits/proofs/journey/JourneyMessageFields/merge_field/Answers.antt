use Rattle.std.proofs.Common.{refl, rules, sym, ◌∙◌}
use Rattle.wire_codec.specs.TagView.{tag_number}
use Rattle.wire_fields.specs.Arms.{arm_err, from_last, neither, unlike}
use Rattle.wire_fields.specs.Leaving.{keeps_beside}
use Rattle.wire_fields.specs.Shape.{keeps}
use Rattle.wire_visits.specs.Journey.{journey-by_day-kind, journey-changes-kind, journey-known}
use Rattle.wire_visits.specs.Journey.{journey-mostly-kind, journey-shape, journey-there-kind}
use Rattle.wire_visits.specs.Journey.{journey-value}
use Rattle.wire_visits.specs.JourneyBack.{by-of-journey_back-closed, journey_back-shape}
use Rattle.wire_visits.proofs.journey.JourneyMessageFields.merge_field.Goals as goal

pub returns-in-1-clause-err : goal.returns-in-1-clause-err
returns-in-1-clause-err g c =
    arm_err journey-shape.takes journey-there-kind.takes 1 _
    (sym c.fields-field_number.ensures.number ∙ c.in-1.is) _ _
    (λ charge z p h. ((z.0.0.0.0, z.1), h.0.0.0)) _ _ _
    c.fields-merge_closed.result c.fields-merge_closed.ensures.err

pub returns-in-2-clause-err : goal.returns-in-2-clause-err
returns-in-2-clause-err g c =
    arm_err journey-shape.takes journey-changes-kind.takes 2 _
    (sym c.fields-field_number.ensures.number ∙ c.in-2.is) _ _
    (λ charge z p h. ((z.0.0.0.1, z.1), h.0.0.0)) _ _ _
    c.fields-merge_closed_each.result c.fields-merge_closed_each.ensures.err

pub returns-in-3-clause-err : goal.returns-in-3-clause-err
returns-in-3-clause-err g c =
    arm_err journey-shape.takes journey-by_day-kind.takes 3 _
    (sym c.fields-field_number.ensures.number ∙ c.in-3.is) _ _
    (λ charge z p h. ((z.0.0.1.0, z.1), h.0.0.0)) _ _ _
    (c.fields-merge_closed-in-3).result (c.fields-merge_closed-in-3).ensures.err

pub returns-in-4-clause-err : goal.returns-in-4-clause-err
returns-in-4-clause-err g c =
    arm_err journey-shape.takes journey_back-shape.takes 4 _
    (sym c.fields-field_number.ensures.number ∙ c.in-4.is) _ _
    (λ charge z p h. (z.0.0.1.1, h.0.0.0.0)) _ _ _
    c.fields-merge.result c.fields-merge.ensures.err

pub returns-in-5-clause-err : goal.returns-in-5-clause-err
returns-in-5-clause-err g c =
    arm_err journey-shape.takes by-of-journey_back-closed 5 _
    (sym c.fields-field_number.ensures.number ∙ c.in-5.is) _ _
    (λ charge z p h. ((z.0.0.1.1, z.1), h.0.0.0)) _ _ _
    c.fields-set_or_keep_by.result c.fields-set_or_keep_by.ensures.err

pub returns-in-6-clause-err : goal.returns-in-6-clause-err
returns-in-6-clause-err g c =
    arm_err journey-shape.takes journey-mostly-kind.takes 6 _
    (sym c.fields-field_number.ensures.number ∙ c.in-6.is) _ _
    (λ charge z p h. ((z.0.1, z.1), h.0)) _ _ _
    (c.fields-merge_closed-in-6).result (c.fields-merge_closed-in-6).ensures.err

pub returns-in_default-clause-err : goal.returns-in_default-clause-err
returns-in_default-clause-err g c =
    let n = tag_number c.args.tag in
    arm_err journey-shape.takes keeps n n refl _ _
    (λ charge z p h. (
      z.1,
      (from_last journey-known.owns journey-known.takes keeps_beside n
          (λ p. neither _ _ (neither _ _ (neither _ _ (unlike n 1 (search rules))
          (unlike n 2 (search rules)))
          (neither _ _ (unlike n 3 (search rules))
          (neither _ _ (unlike n 4 (search rules))
          (unlike n 5 (search rules)))))
          (unlike n 6 (search rules)))
          (journey-value c.args.self.now) z charge p h).0,
    ))
    _ _ _ c.fields-keep.result c.fields-keep.ensures.err
