use Rattle.std.proofs.Common.{refl, rules, sym, ◌∙◌}
use Rattle.wire_codec.specs.TagView.{tag_number}
use Rattle.wire_fields.specs.Arms.{arm_err, from_last, neither, unlike}
use Rattle.wire_fields.specs.Leaving.{keeps_beside}
use Rattle.wire_fields.specs.Shape.{keeps}
use Rattle.wire_tables.specs.Signal.{signal-by_name-kind, signal-by_place-kind, signal-history-kind}
use Rattle.wire_tables.specs.Signal.{signal-known, signal-level-kind, signal-marks-kind}
use Rattle.wire_tables.specs.Signal.{signal-shape, signal-value}
use Rattle.wire_tables.specs.SignalCause.{signal_cause-shape, trigger-of-signal_cause-closed}
use Rattle.wire_tables.proofs.signal.SignalMessageFields.merge_field.Goals as goal

pub returns-in-1-clause-err : goal.returns-in-1-clause-err
returns-in-1-clause-err g c =
    arm_err signal-shape.takes signal-level-kind.takes 1 _
    (sym c.fields-field_number.ensures.number ∙ c.in-1.is) _ _
    (λ charge z p h. ((z.0.0.0.0, z.1), h.0.0.0)) _ _ _
    c.fields-merge_closed.result c.fields-merge_closed.ensures.err

pub returns-in-2-clause-err : goal.returns-in-2-clause-err
returns-in-2-clause-err g c =
    arm_err signal-shape.takes signal-history-kind.takes 2 _
    (sym c.fields-field_number.ensures.number ∙ c.in-2.is) _ _
    (λ charge z p h. ((z.0.0.0.1, z.1), h.0.0.0)) _ _ _
    c.fields-merge_closed_each.result c.fields-merge_closed_each.ensures.err

pub returns-in-3-clause-err : goal.returns-in-3-clause-err
returns-in-3-clause-err g c =
    arm_err signal-shape.takes signal-marks-kind.takes 3 _
    (sym c.fields-field_number.ensures.number ∙ c.in-3.is) _ _
    (λ charge z p h. ((z.0.0.1.0, z.1), h.0.0.0)) _ _ _
    (c.fields-merge_closed_each-in-3).result (c.fields-merge_closed_each-in-3).ensures.err

pub returns-in-4-clause-err : goal.returns-in-4-clause-err
returns-in-4-clause-err g c =
    arm_err signal-shape.takes signal_cause-shape.takes 4 _
    (sym c.fields-field_number.ensures.number ∙ c.in-4.is) _ _
    (λ charge z p h. (z.0.0.1.1, h.0.0.0.0)) _ _ _
    c.fields-merge.result c.fields-merge.ensures.err

pub returns-in-5-clause-err : goal.returns-in-5-clause-err
returns-in-5-clause-err g c =
    arm_err signal-shape.takes trigger-of-signal_cause-closed 5 _
    (sym c.fields-field_number.ensures.number ∙ c.in-5.is) _ _
    (λ charge z p h. ((z.0.0.1.1, z.1), h.0.0.0)) _ _ _
    c.fields-set_or_keep_trigger.result c.fields-set_or_keep_trigger.ensures.err

pub returns-in-6-clause-err : goal.returns-in-6-clause-err
returns-in-6-clause-err g c =
    arm_err signal-shape.takes signal-by_name-kind.takes 6 _
    (sym c.fields-field_number.ensures.number ∙ c.in-6.is) _ _
    (λ charge z p h. ((z.0.1.0, z.1), h.0.0)) _ _ _
    (c.fields-merge_closed-in-6).result (c.fields-merge_closed-in-6).ensures.err

pub returns-in-7-clause-err : goal.returns-in-7-clause-err
returns-in-7-clause-err g c =
    arm_err signal-shape.takes signal-by_place-kind.takes 7 _
    (sym c.fields-field_number.ensures.number ∙ c.in-7.is) _ _
    (λ charge z p h. ((z.0.1.1, z.1), h.0.0)) _ _ _
    (c.fields-merge_closed-in-7).result (c.fields-merge_closed-in-7).ensures.err

pub returns-in_default-clause-err : goal.returns-in_default-clause-err
returns-in_default-clause-err g c =
    let n = tag_number c.args.tag in
    arm_err signal-shape.takes keeps n n refl _ _
    (λ charge z p h. (
      z.1,
      (from_last signal-known.owns signal-known.takes keeps_beside n
          (λ p. neither _ _ (neither _ _ (neither _ _ (unlike n 1 (search rules))
          (unlike n 2 (search rules)))
          (neither _ _ (unlike n 3 (search rules))
          (neither _ _ (unlike n 4 (search rules))
          (unlike n 5 (search rules)))))
          (neither _ _ (unlike n 6 (search rules))
          (unlike n 7 (search rules))))
          (signal-value c.args.self.now) z charge p h).0,
    ))
    _ _ _ c.fields-keep.result c.fields-keep.ensures.err
