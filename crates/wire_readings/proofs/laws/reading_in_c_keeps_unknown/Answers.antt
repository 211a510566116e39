use Rattle.std.specs.Prelude.{IsUtf8}
use Rattle.wire_codec.specs.ValueMap.{sint64}
use Rattle.wire_fields.specs.Enums.{open_enum}
use Rattle.wire_fields.specs.Floats.{double}
use Rattle.wire_fields.specs.Numbers.{numeric}
use Rattle.wire_fields.specs.Texts.{string}
use Rattle.wire_fields.specs.declared.form.Form.TheVariants.{Fixed64, Varint}
use Rattle.wire_readings.specs.Reading.{reading-celsius-kind, reading-known, reading-offset-kind}
use Rattle.wire_readings.specs.Reading.{reading-sensor-kind, reading-shape, reading-state-kind}
use Rattle.wire_readings.specs.State.{state-number, state-of}
use Rattle.wire_structs.proofs.KeptUnknown.{keeps_unknown}
use Rattle.wire_structs.specs.ListLaws.{HasLevels, flat_delimited, flat_numeric, known_levels}
use Rattle.wire_structs.specs.ListLaws.{sets_levels, some_levels, two_levels, unknown_levels}
use Rattle.wire_readings.proofs.laws.reading_in_c_keeps_unknown.Goals as goal

reading-levels : HasLevels reading-shape
reading-levels =
    two_levels _ _
    (two_levels _ _
    (two_levels _ _
    (known_levels 1 reading-sensor-kind
    (sets_levels string (flat_delimited IsUtf8)))
    (known_levels 2 reading-celsius-kind
    (sets_levels (numeric Fixed64 double) (flat_numeric Fixed64 double))))
    (two_levels _ _
    (known_levels 3 reading-offset-kind
    (some_levels (numeric Varint sint64) (flat_numeric Varint sint64)))
    (known_levels 4 reading-state-kind
    (sets_levels (numeric Varint (open_enum state-number state-of)) (flat_numeric Varint (open_enum state-number state-of))))))
    unknown_levels

pub returns : goal.returns
returns c = keeps_unknown reading-known reading-levels
