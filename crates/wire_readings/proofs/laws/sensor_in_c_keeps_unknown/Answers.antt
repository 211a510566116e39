use Rattle.std.specs.Prelude.{IsUtf8}
use Rattle.wire_codec.specs.ValueMap.{sint32, uint32}
use Rattle.wire_fields.specs.Enums.{open_enum}
use Rattle.wire_fields.specs.Floats.{double}
use Rattle.wire_fields.specs.Numbers.{numeric}
use Rattle.wire_fields.specs.Texts.{any_bytes, string}
use Rattle.wire_fields.specs.declared.form.Form.TheVariants.{Fixed64, Varint}
use Rattle.wire_readings.specs.Point.{point-shape}
use Rattle.wire_readings.specs.Reading.{reading-shape}
use Rattle.wire_readings.specs.Sensor.{sensor-at-kind, sensor-count-kind, sensor-key-kind}
use Rattle.wire_readings.specs.Sensor.{sensor-known, sensor-last-kind, sensor-name-kind}
use Rattle.wire_readings.specs.Sensor.{sensor-next-kind, sensor-settings-kind, sensor-shape}
use Rattle.wire_readings.specs.Sensor.{sensor-state-kind, sensor-turned-kind, sensor-weight-kind}
use Rattle.wire_readings.specs.Settings.{settings-shape}
use Rattle.wire_readings.specs.State.{state-number, state-of}
use Rattle.wire_structs.proofs.KeptUnknown.{keeps_unknown}
use Rattle.wire_structs.specs.ListLaws.{HasLevels, flat_delimited, flat_numeric, known_levels}
use Rattle.wire_structs.specs.ListLaws.{merges_levels, sets_levels, some_levels, two_levels}
use Rattle.wire_structs.specs.ListLaws.{unknown_levels}
use Rattle.wire_readings.proofs.laws.sensor_in_c_keeps_unknown.Goals as goal

sensor-levels : HasLevels sensor-shape
sensor-levels =
    two_levels _ _
    (two_levels _ _
    (two_levels _ _
    (two_levels _ _
    (two_levels _ _
    (two_levels _ _
    (known_levels 1 sensor-name-kind
    (sets_levels string (flat_delimited IsUtf8)))
    (known_levels 2 sensor-at-kind
    (merges_levels point-shape.takes point-shape.default)))
    (two_levels _ _
    (known_levels 3 sensor-last-kind
    (merges_levels reading-shape.takes reading-shape.default))
    (known_levels 4 sensor-count-kind
    (some_levels (numeric Varint uint32) (flat_numeric Varint uint32)))))
    (two_levels _ _
    (two_levels _ _
    (known_levels 5 sensor-settings-kind
    (merges_levels settings-shape.takes settings-shape.default))
    (known_levels 6 sensor-key-kind
    (sets_levels any_bytes (flat_delimited (λ b. Unit {0})))))
    (two_levels _ _
    (known_levels 7 sensor-turned-kind
    (sets_levels (numeric Varint sint32) (flat_numeric Varint sint32)))
    (known_levels 8 sensor-state-kind
    (sets_levels (numeric Varint (open_enum state-number state-of)) (flat_numeric Varint (open_enum state-number state-of)))))))
    (known_levels 9 sensor-weight-kind
    (sets_levels (numeric Fixed64 double) (flat_numeric Fixed64 double))))
    (known_levels 10 sensor-next-kind
    (merges_levels point-shape.takes point-shape.default)))
    unknown_levels

pub returns : goal.returns
returns c = keeps_unknown sensor-known sensor-levels
