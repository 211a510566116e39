use Rattle.std.specs.Prelude.{IsUtf8}
use Rattle.wire_codec.specs.ValueMap.{bool, int32, sfixed64}
use Rattle.wire_fields.specs.Enums.{open_enum}
use Rattle.wire_fields.specs.Floats.{double, float}
use Rattle.wire_fields.specs.Numbers.{numeric}
use Rattle.wire_fields.specs.Texts.{any_bytes, string}
use Rattle.wire_fields.specs.declared.form.Form.TheVariants.{Fixed32, Fixed64, Varint}
use Rattle.wire_machines.specs.Axis.{axis-shape}
use Rattle.wire_machines.specs.Mode.{mode-number, mode-of}
use Rattle.wire_machines.specs.Motor.{motor-axis-kind, motor-drift-kind, motor-heat-kind}
use Rattle.wire_machines.specs.Motor.{motor-is_on-kind, motor-key-kind, motor-known}
use Rattle.wire_machines.specs.Motor.{motor-least-kind, motor-load-kind, motor-maker-kind}
use Rattle.wire_machines.specs.Motor.{motor-mode-kind, motor-name-kind, motor-offset-kind}
use Rattle.wire_machines.specs.Motor.{motor-seal-kind, motor-shape, motor-spare-kind}
use Rattle.wire_structs.proofs.KeptUnknown.{keeps_unknown}
use Rattle.wire_structs.specs.ListLaws.{HasLevels, flat_delimited, flat_numeric, known_levels}
use Rattle.wire_structs.specs.ListLaws.{merges_levels, some_levels, two_levels, unknown_levels}
use Rattle.wire_machines.proofs.laws.motor_in_c_keeps_unknown.Goals as goal

motor-levels : HasLevels motor-shape
motor-levels =
    two_levels _ _
    (two_levels _ _
    (two_levels _ _
    (two_levels _ _
    (two_levels _ _
    (two_levels _ _
    (two_levels _ _
    (known_levels 1 motor-name-kind
    (some_levels string (flat_delimited IsUtf8)))
    (known_levels 2 motor-maker-kind
    (some_levels string (flat_delimited IsUtf8))))
    (two_levels _ _
    (known_levels 3 motor-key-kind
    (some_levels any_bytes (flat_delimited (λ b. Unit {0}))))
    (known_levels 4 motor-seal-kind
    (some_levels any_bytes (flat_delimited (λ b. Unit {0}))))))
    (two_levels _ _
    (two_levels _ _
    (known_levels 5 motor-mode-kind
    (some_levels (numeric Varint (open_enum mode-number mode-of)) (flat_numeric Varint (open_enum mode-number mode-of))))
    (known_levels 6 motor-least-kind
    (some_levels (numeric Varint (open_enum mode-number mode-of)) (flat_numeric Varint (open_enum mode-number mode-of)))))
    (two_levels _ _
    (known_levels 7 motor-axis-kind
    (merges_levels axis-shape.takes axis-shape.default))
    (known_levels 8 motor-spare-kind
    (merges_levels axis-shape.takes axis-shape.default)))))
    (known_levels 9 motor-is_on-kind
    (some_levels (numeric Varint bool) (flat_numeric Varint bool))))
    (two_levels _ _
    (known_levels 10 motor-load-kind
    (some_levels (numeric Fixed64 double) (flat_numeric Fixed64 double)))
    (known_levels 11 motor-heat-kind
    (some_levels (numeric Fixed32 float) (flat_numeric Fixed32 float)))))
    (two_levels _ _
    (known_levels 12 motor-drift-kind
    (some_levels (numeric Fixed64 sfixed64) (flat_numeric Fixed64 sfixed64)))
    (known_levels 536870911 motor-offset-kind
    (some_levels (numeric Varint int32) (flat_numeric Varint int32)))))
    unknown_levels

pub returns : goal.returns
returns c = keeps_unknown motor-known motor-levels
