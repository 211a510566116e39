use Rattle.std.proofs.Common.{rules, sym, ◌∙◌}
use Rattle.wire_codec.specs.TagView.{tag_number}
use Rattle.wire_codec.specs.ValueMap.{sfixed32}
use Rattle.wire_fields.specs.Arms.{arm_err, rest_err, unlike}
use Rattle.wire_fields.specs.declared.form.Form.TheVariants.{Fixed32}
use Rattle.wire_fields.specs.Numbers.{numeric}
use Rattle.wire_fields.specs.Presence.{always}
use Rattle.wire_fields.specs.Shape.{keeps}
use Rattle.wire_samples.specs.Gauge.{gauge_known, gauge}
use Rattle.wire_samples.proofs.gauge.GaugeMessageFields.merge_field.Goals as goal

pub returns-in-1-clause-err : goal.returns-in-1-clause-err
returns-in-1-clause-err g c =
    arm_err gauge.takes (always (numeric Fixed32 sfixed32)).kind.takes 1 _
    (sym c.field_number.ensures.number ∙ c.in-1.is) _ _ (λ charge z p h. (z.0, h.0)) _ _ _
    c.merge.result c.merge.ensures.err

pub returns-in_default-clause-err : goal.returns-in_default-clause-err
returns-in_default-clause-err g c =
    rest_err gauge_known.owns gauge_known.takes keeps _
    (λ p. unlike (tag_number c.args.tag) 1 (search rules)) _ _ _ _ c.keep.result
    c.keep.ensures.err
