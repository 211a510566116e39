use Rattle.std.proofs.Common.{refl, rules, sym, ◌∙◌}
use Rattle.wire_codec.specs.TagView.{tag_number}
use Rattle.wire_fields.specs.Arms.{arm_err, from_last, neither, unlike}
use Rattle.wire_fields.specs.Leaving.{keeps_beside}
use Rattle.wire_fields.specs.Shape.{keeps}
use Rattle.wire_trips.specs.Seat.{seat-free_sides-kind, seat-known, seat-own_side-kind, seat-shape}
use Rattle.wire_trips.specs.Seat.{seat-sides_by_row-kind, seat-value}
use Rattle.wire_trips.proofs.seat.SeatMessageFields.merge_field.Goals as goal

pub returns-in-1-clause-err : goal.returns-in-1-clause-err
returns-in-1-clause-err g c =
    arm_err seat-shape.takes seat-own_side-kind.takes 1 _
    (sym c.fields-field_number.ensures.number ∙ c.in-1.is) _ _
    (λ charge z p h. ((z.0.0.0, z.1), h.0.0)) _ _ _
    c.fields-merge_closed.result c.fields-merge_closed.ensures.err

pub returns-in-2-clause-err : goal.returns-in-2-clause-err
returns-in-2-clause-err g c =
    arm_err seat-shape.takes seat-free_sides-kind.takes 2 _
    (sym c.fields-field_number.ensures.number ∙ c.in-2.is) _ _
    (λ charge z p h. ((z.0.0.1, z.1), h.0.0)) _ _ _
    c.fields-merge_closed_each.result c.fields-merge_closed_each.ensures.err

pub returns-in-3-clause-err : goal.returns-in-3-clause-err
returns-in-3-clause-err g c =
    arm_err seat-shape.takes seat-sides_by_row-kind.takes 3 _
    (sym c.fields-field_number.ensures.number ∙ c.in-3.is) _ _
    (λ charge z p h. ((z.0.1, z.1), h.0)) _ _ _
    (c.fields-merge_closed-in-3).result (c.fields-merge_closed-in-3).ensures.err

pub returns-in_default-clause-err : goal.returns-in_default-clause-err
returns-in_default-clause-err g c =
    let n = tag_number c.args.tag in
    arm_err seat-shape.takes keeps n n refl _ _
    (λ charge z p h. (
      z.1,
      (from_last seat-known.owns seat-known.takes keeps_beside n
          (λ p. neither _ _ (neither _ _ (unlike n 1 (search rules))
          (unlike n 2 (search rules)))
          (unlike n 3 (search rules)))
          (seat-value c.args.self.now) z charge p h).0,
    ))
    _ _ _ c.fields-keep.result c.fields-keep.ensures.err
