use Rattle.std.proofs.Common.{refl, rules, sym, ◌∙◌}
use Rattle.wire_codec.specs.TagView.{tag_number}
use Rattle.wire_fields.specs.Arms.{arm_err, from_last, neither, unlike}
use Rattle.wire_fields.specs.Leaving.{keeps_beside}
use Rattle.wire_fields.specs.Shape.{keeps}
use Rattle.wire_meter.specs.Meter.{meter-known, meter-shape, meter-steps-kind, meter-total-kind}
use Rattle.wire_meter.specs.Meter.{meter-value}
use Rattle.wire_meter.proofs.meter.MeterMessageFields.merge_field.Goals as goal

pub returns-in-1-clause-err : goal.returns-in-1-clause-err
returns-in-1-clause-err g c =
    arm_err meter-shape.takes meter-total-kind.takes 1 _
    (sym c.fields-field_number.ensures.number ∙ c.in-1.is) _ _
    (λ charge z p h. ((z.0.0, z.1), h.0)) _ _ _
    c.fields-merge_or_keep.result c.fields-merge_or_keep.ensures.err

pub returns-in-2-clause-err : goal.returns-in-2-clause-err
returns-in-2-clause-err g c =
    arm_err meter-shape.takes meter-steps-kind.takes 2 _
    (sym c.fields-field_number.ensures.number ∙ c.in-2.is) _ _
    (λ charge z p h. ((z.0.1, z.1), h.0)) _ _ _
    (c.fields-merge_or_keep-in-2).result (c.fields-merge_or_keep-in-2).ensures.err

pub returns-in_default-clause-err : goal.returns-in_default-clause-err
returns-in_default-clause-err g c =
    let n = tag_number c.args.tag in
    arm_err meter-shape.takes keeps n n refl _ _
    (λ charge z p h. (
      z.1,
      (from_last meter-known.owns meter-known.takes keeps_beside n
          (λ p. neither _ _ (unlike n 1 (search rules))
          (unlike n 2 (search rules)))
          (meter-value c.args.self.now) z charge p h).0,
    ))
    _ _ _ c.fields-keep.result c.fields-keep.ensures.err
