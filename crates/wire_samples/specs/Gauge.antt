-- A `Gauge` as contracts see it, and its table.
use Rattle.std.specs.Prelude.{ℤ}
use Rattle.wire_codec.specs.Field.{Fields}
use Rattle.wire_codec.specs.ValueMap.{sfixed32}
use Rattle.wire_fields.specs.declared.form.Form.TheVariants.{Fixed32}
use Rattle.wire_fields.specs.Numbers.{numeric}
use Rattle.wire_fields.specs.Presence.{always}
use Rattle.wire_fields.specs.Shape.{Shape, known, two, unknown}
use Rattle.wire_samples.specs.declared.gauge.Gauge.{Gauge}

abbrev pub GaugeValue : Type 0
GaugeValue = ℤ × Fields

abbrev pub gauge_value : Gauge → GaugeValue
gauge_value m = (m.level, m.unknown)

abbrev pub gauge_known : Shape ℤ
gauge_known = known 1 (always (numeric Fixed32 sfixed32))

abbrev pub gauge : Shape GaugeValue
gauge = two gauge_known unknown
