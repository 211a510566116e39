use Rattle.std.proofs.Common.{refl, rules, sym, ◌∙◌}
use Rattle.wire_codec.specs.TagView.{tag_number}
use Rattle.wire_fields.specs.Arms.{arm_err, arm_ok, neither, rest_err, unlike}
use Rattle.wire_fields.specs.Shape.{keeps}
use Rattle.wire_trips.specs.Trip.{trip-begun_by-kind, trip-fares-kind, trip-further_means-kind}
use Rattle.wire_trips.specs.Trip.{trip-goal-kind, trip-halts-kind, trip-is_at_night-kind}
use Rattle.wire_trips.specs.Trip.{trip-known, trip-seat_class-kind, trip-shape}
use Rattle.wire_trips.specs.TripPaid.{trip_paid-shape}
use Rattle.wire_trips.proofs.trip.TripMessageFields.merge_field.Goals as goal

pub returns-in-1-clause-err : goal.returns-in-1-clause-err
returns-in-1-clause-err g c =
    arm_err trip-shape.takes trip-begun_by-kind.kind.takes 1 _
    (sym c.fields-field_number.ensures.number ∙ c.in-1.is) _ _
    (λ charge z p h. (z.0.0.0.0, h.0.0.0.0)) _ _ _
    c.fields-merge.result c.fields-merge.ensures.err

pub returns-in-1-clause-ok : goal.returns-in-1-clause-ok
returns-in-1-clause-ok g c =
    arm_ok trip-shape.takes trip-begun_by-kind.kind.takes 1 _
    (sym c.fields-field_number.ensures.number ∙ c.in-1.is) _ _ _ _
    (λ charge p h. ((((h, refl), refl), refl), refl)) _ _ _ _ _
    c.fields-merge.result c.fields-merge.ensures.ok

pub returns-in-2-clause-err : goal.returns-in-2-clause-err
returns-in-2-clause-err g c =
    arm_err trip-shape.takes trip-halts-kind.kind.takes 2 _
    (sym c.fields-field_number.ensures.number ∙ c.in-2.is) _ _
    (λ charge z p h. (z.0.0.0.1, h.0.0.0.0)) _ _ _
    (c.fields-merge-in-2).result (c.fields-merge-in-2).ensures.err

pub returns-in-2-clause-ok : goal.returns-in-2-clause-ok
returns-in-2-clause-ok g c =
    arm_ok trip-shape.takes trip-halts-kind.kind.takes 2 _
    (sym c.fields-field_number.ensures.number ∙ c.in-2.is) _ _ _ _
    (λ charge p h. ((((h, refl), refl), refl), refl)) _ _ _ _ _
    (c.fields-merge-in-2).result (c.fields-merge-in-2).ensures.ok

pub returns-in-3-clause-err : goal.returns-in-3-clause-err
returns-in-3-clause-err g c =
    arm_err trip-shape.takes trip-fares-kind.kind.takes 3 _
    (sym c.fields-field_number.ensures.number ∙ c.in-3.is) _ _
    (λ charge z p h. (z.0.0.1.0, h.0.0.0.0)) _ _ _
    (c.fields-merge-in-3).result (c.fields-merge-in-3).ensures.err

pub returns-in-3-clause-ok : goal.returns-in-3-clause-ok
returns-in-3-clause-ok g c =
    arm_ok trip-shape.takes trip-fares-kind.kind.takes 3 _
    (sym c.fields-field_number.ensures.number ∙ c.in-3.is) _ _ _ _
    (λ charge p h. ((((h, refl), refl), refl), refl)) _ _ _ _ _
    (c.fields-merge-in-3).result (c.fields-merge-in-3).ensures.ok

pub returns-in-4-clause-err : goal.returns-in-4-clause-err
returns-in-4-clause-err g c =
    arm_err trip-shape.takes trip-seat_class-kind.kind.takes 4 _
    (sym c.fields-field_number.ensures.number ∙ c.in-4.is) _ _
    (λ charge z p h. (z.0.0.1.1, h.0.0.0.0)) _ _ _
    (c.fields-merge-in-4).result (c.fields-merge-in-4).ensures.err

pub returns-in-4-clause-ok : goal.returns-in-4-clause-ok
returns-in-4-clause-ok g c =
    arm_ok trip-shape.takes trip-seat_class-kind.kind.takes 4 _
    (sym c.fields-field_number.ensures.number ∙ c.in-4.is) _ _ _ _
    (λ charge p h. ((((h, refl), refl), refl), refl)) _ _ _ _ _
    (c.fields-merge-in-4).result (c.fields-merge-in-4).ensures.ok

pub returns-in-5-clause-err : goal.returns-in-5-clause-err
returns-in-5-clause-err g c =
    arm_err trip-shape.takes trip-goal-kind.kind.takes 5 _
    (sym c.fields-field_number.ensures.number ∙ c.in-5.is) _ _
    (λ charge z p h. (z.0.1.0.0, h.0.0.0.0)) _ _ _
    (c.fields-merge-in-5).result (c.fields-merge-in-5).ensures.err

pub returns-in-5-clause-ok : goal.returns-in-5-clause-ok
returns-in-5-clause-ok g c =
    arm_ok trip-shape.takes trip-goal-kind.kind.takes 5 _
    (sym c.fields-field_number.ensures.number ∙ c.in-5.is) _ _ _ _
    (λ charge p h. ((((h, refl), refl), refl), refl)) _ _ _ _ _
    (c.fields-merge-in-5).result (c.fields-merge-in-5).ensures.ok

pub returns-in-6-clause-err : goal.returns-in-6-clause-err
returns-in-6-clause-err g c =
    arm_err trip-shape.takes trip_paid-shape.takes 6 _
    (sym c.fields-field_number.ensures.number ∙ c.in-6.is) _ _
    (λ charge z p h. (z.0.1.0.1, h.0.0.0.0)) _ _ _
    (c.fields-merge-in-6).result (c.fields-merge-in-6).ensures.err

pub returns-in-6-clause-ok : goal.returns-in-6-clause-ok
returns-in-6-clause-ok g c =
    arm_ok trip-shape.takes trip_paid-shape.takes 6 _
    (sym c.fields-field_number.ensures.number ∙ c.in-6.is) _ _ _ _
    (λ charge p h. ((((h, refl), refl), refl), refl)) _ _ _ _ _
    (c.fields-merge-in-6).result (c.fields-merge-in-6).ensures.ok

pub returns-in-7-clause-err : goal.returns-in-7-clause-err
returns-in-7-clause-err g c =
    arm_err trip-shape.takes trip_paid-shape.takes 7 _
    (sym c.fields-field_number.ensures.number ∙ c.in-7.is) _ _
    (λ charge z p h. (z.0.1.0.1, h.0.0.0.0)) _ _ _
    (c.fields-merge-in-7).result (c.fields-merge-in-7).ensures.err

pub returns-in-7-clause-ok : goal.returns-in-7-clause-ok
returns-in-7-clause-ok g c =
    arm_ok trip-shape.takes trip_paid-shape.takes 7 _
    (sym c.fields-field_number.ensures.number ∙ c.in-7.is) _ _ _ _
    (λ charge p h. ((((h, refl), refl), refl), refl)) _ _ _ _ _
    (c.fields-merge-in-7).result (c.fields-merge-in-7).ensures.ok

pub returns-in-8-clause-err : goal.returns-in-8-clause-err
returns-in-8-clause-err g c =
    arm_err trip-shape.takes trip-is_at_night-kind.kind.takes 8 _
    (sym c.fields-field_number.ensures.number ∙ c.in-8.is) _ _
    (λ charge z p h. (z.0.1.1.0, h.0.0.0.0)) _ _ _
    (c.fields-merge-in-8).result (c.fields-merge-in-8).ensures.err

pub returns-in-8-clause-ok : goal.returns-in-8-clause-ok
returns-in-8-clause-ok g c =
    arm_ok trip-shape.takes trip-is_at_night-kind.kind.takes 8 _
    (sym c.fields-field_number.ensures.number ∙ c.in-8.is) _ _ _ _
    (λ charge p h. ((((h, refl), refl), refl), refl)) _ _ _ _ _
    (c.fields-merge-in-8).result (c.fields-merge-in-8).ensures.ok

pub returns-in-9-clause-err : goal.returns-in-9-clause-err
returns-in-9-clause-err g c =
    arm_err trip-shape.takes trip-further_means-kind.kind.takes 9 _
    (sym c.fields-field_number.ensures.number ∙ c.in-9.is) _ _
    (λ charge z p h. (z.0.1.1.1, h.0.0.0.0)) _ _ _
    (c.fields-merge-in-9).result (c.fields-merge-in-9).ensures.err

pub returns-in-9-clause-ok : goal.returns-in-9-clause-ok
returns-in-9-clause-ok g c =
    arm_ok trip-shape.takes trip-further_means-kind.kind.takes 9 _
    (sym c.fields-field_number.ensures.number ∙ c.in-9.is) _ _ _ _
    (λ charge p h. ((((h, refl), refl), refl), refl)) _ _ _ _ _
    (c.fields-merge-in-9).result (c.fields-merge-in-9).ensures.ok

pub returns-in_default-clause-err : goal.returns-in_default-clause-err
returns-in_default-clause-err g c =
    let n = tag_number c.args.tag in
    rest_err trip-known.owns trip-known.takes keeps _
    (λ p. neither _ _ (neither _ _ (neither _ _ (unlike n 1 (search rules))
    (unlike n 2 (search rules)))
    (neither _ _ (unlike n 3 (search rules))
    (unlike n 4 (search rules))))
    (neither _ _ (neither _ _ (unlike n 5 (search rules))
    (neither _ _ (unlike n 6 (search rules))
    (unlike n 7 (search rules))))
    (neither _ _ (unlike n 8 (search rules))
    (unlike n 9 (search rules)))))
    _ _ _ _ c.fields-keep.result c.fields-keep.ensures.err
