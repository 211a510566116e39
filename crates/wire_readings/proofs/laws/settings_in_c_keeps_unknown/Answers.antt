use Rattle.std.specs.Prelude.{IsUtf8}
use Rattle.wire_codec.specs.ValueMap.{bool, fixed32, fixed64, int32, int64, sfixed32, sfixed64}
use Rattle.wire_codec.specs.ValueMap.{sint32, uint32, uint64}
use Rattle.wire_fields.specs.Enums.{open_enum}
use Rattle.wire_fields.specs.Floats.{double, float}
use Rattle.wire_fields.specs.Numbers.{numeric}
use Rattle.wire_fields.specs.Texts.{any_bytes, string}
use Rattle.wire_fields.specs.declared.form.Form.TheVariants.{Fixed32, Fixed64, Varint}
use Rattle.wire_readings.specs.Settings.{settings-address-kind, settings-count-kind}
use Rattle.wire_readings.specs.Settings.{settings-each_seconds-kind, settings-factor-kind}
use Rattle.wire_readings.specs.Settings.{settings-gain-kind, settings-high-kind}
use Rattle.wire_readings.specs.Settings.{settings-is_loud-kind, settings-is_on-kind}
use Rattle.wire_readings.specs.Settings.{settings-key-kind, settings-known, settings-label-kind}
use Rattle.wire_readings.specs.Settings.{settings-least-kind, settings-limit-kind}
use Rattle.wire_readings.specs.Settings.{settings-low-kind, settings-mask-kind}
use Rattle.wire_readings.specs.Settings.{settings-register-kind, settings-serial-kind}
use Rattle.wire_readings.specs.Settings.{settings-shape, settings-shift-kind, settings-since-kind}
use Rattle.wire_readings.specs.Settings.{settings-token-kind, settings-worst-kind}
use Rattle.wire_readings.specs.State.{state-number, state-of}
use Rattle.wire_structs.proofs.KeptUnknown.{keeps_unknown}
use Rattle.wire_structs.specs.ListLaws.{HasLevels, flat_delimited, flat_numeric, known_levels}
use Rattle.wire_structs.specs.ListLaws.{sets_levels, some_levels, two_levels, unknown_levels}
use Rattle.wire_readings.proofs.laws.settings_in_c_keeps_unknown.Goals as goal

settings-levels : HasLevels settings-shape
settings-levels =
    two_levels _ _
    (two_levels _ _
    (two_levels _ _
    (two_levels _ _
    (two_levels _ _
    (two_levels _ _
    (two_levels _ _
    (known_levels 1 settings-least-kind
    (sets_levels (numeric Varint int32) (flat_numeric Varint int32)))
    (known_levels 2 settings-since-kind
    (sets_levels (numeric Varint int64) (flat_numeric Varint int64))))
    (two_levels _ _
    (known_levels 3 settings-each_seconds-kind
    (sets_levels (numeric Varint uint32) (flat_numeric Varint uint32)))
    (known_levels 4 settings-serial-kind
    (sets_levels (numeric Varint uint64) (flat_numeric Varint uint64)))))
    (two_levels _ _
    (two_levels _ _
    (known_levels 5 settings-shift-kind
    (sets_levels (numeric Varint sint32) (flat_numeric Varint sint32)))
    (known_levels 6 settings-address-kind
    (sets_levels (numeric Fixed32 fixed32) (flat_numeric Fixed32 fixed32))))
    (two_levels _ _
    (known_levels 7 settings-key-kind
    (sets_levels (numeric Fixed64 fixed64) (flat_numeric Fixed64 fixed64)))
    (known_levels 8 settings-low-kind
    (sets_levels (numeric Fixed32 sfixed32) (flat_numeric Fixed32 sfixed32))))))
    (two_levels _ _
    (two_levels _ _
    (two_levels _ _
    (known_levels 9 settings-high-kind
    (sets_levels (numeric Fixed64 sfixed64) (flat_numeric Fixed64 sfixed64)))
    (known_levels 10 settings-factor-kind
    (sets_levels (numeric Fixed32 float) (flat_numeric Fixed32 float))))
    (two_levels _ _
    (known_levels 11 settings-is_on-kind
    (sets_levels (numeric Varint bool) (flat_numeric Varint bool)))
    (known_levels 12 settings-register-kind
    (sets_levels any_bytes (flat_delimited (λ b. Unit {0}))))))
    (two_levels _ _
    (two_levels _ _
    (known_levels 13 settings-label-kind
    (some_levels string (flat_delimited IsUtf8)))
    (known_levels 14 settings-token-kind
    (some_levels any_bytes (flat_delimited (λ b. Unit {0})))))
    (two_levels _ _
    (known_levels 15 settings-limit-kind
    (some_levels (numeric Fixed64 double) (flat_numeric Fixed64 double)))
    (known_levels 16 settings-gain-kind
    (some_levels (numeric Fixed32 float) (flat_numeric Fixed32 float)))))))
    (two_levels _ _
    (known_levels 17 settings-is_loud-kind
    (some_levels (numeric Varint bool) (flat_numeric Varint bool)))
    (known_levels 18 settings-worst-kind
    (some_levels (numeric Varint (open_enum state-number state-of)) (flat_numeric Varint (open_enum state-number state-of))))))
    (two_levels _ _
    (known_levels 20 settings-mask-kind
    (some_levels (numeric Fixed32 fixed32) (flat_numeric Fixed32 fixed32)))
    (known_levels 21 settings-count-kind
    (some_levels (numeric Varint uint64) (flat_numeric Varint uint64)))))
    unknown_levels

pub returns : goal.returns
returns c = keeps_unknown settings-known settings-levels
