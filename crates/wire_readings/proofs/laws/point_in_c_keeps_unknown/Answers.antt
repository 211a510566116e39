use Rattle.wire_codec.specs.ValueMap.{sint32}
use Rattle.wire_fields.specs.Numbers.{numeric}
use Rattle.wire_fields.specs.declared.form.Form.TheVariants.{Varint}
use Rattle.wire_readings.specs.Point.{point-known, point-shape, point-x-kind, point-y-kind}
use Rattle.wire_structs.proofs.KeptUnknown.{keeps_unknown}
use Rattle.wire_structs.specs.ListLaws.{HasLevels, flat_numeric, known_levels, sets_levels}
use Rattle.wire_structs.specs.ListLaws.{two_levels, unknown_levels}
use Rattle.wire_readings.proofs.laws.point_in_c_keeps_unknown.Goals as goal

point-levels : HasLevels point-shape
point-levels =
    two_levels _ _
    (two_levels _ _
    (known_levels 1 point-x-kind
    (sets_levels (numeric Varint sint32) (flat_numeric Varint sint32)))
    (known_levels 2 point-y-kind
    (sets_levels (numeric Varint sint32) (flat_numeric Varint sint32))))
    unknown_levels

pub returns : goal.returns
returns c = keeps_unknown point-known point-levels
