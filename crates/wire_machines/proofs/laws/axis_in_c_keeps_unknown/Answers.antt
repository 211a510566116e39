use Rattle.wire_codec.specs.ValueMap.{fixed64, sint32, uint32}
use Rattle.wire_fields.specs.Numbers.{numeric}
use Rattle.wire_fields.specs.declared.form.Form.TheVariants.{Fixed64, Varint}
use Rattle.wire_machines.specs.Axis.{axis-known, axis-serial-kind, axis-shape, axis-teeth-kind}
use Rattle.wire_machines.specs.Axis.{axis-turns-kind}
use Rattle.wire_structs.proofs.KeptUnknown.{keeps_unknown}
use Rattle.wire_structs.specs.ListLaws.{HasLevels, flat_numeric, known_levels, some_levels}
use Rattle.wire_structs.specs.ListLaws.{two_levels, unknown_levels}
use Rattle.wire_machines.proofs.laws.axis_in_c_keeps_unknown.Goals as goal

axis-levels : HasLevels axis-shape
axis-levels =
    two_levels _ _
    (two_levels _ _
    (two_levels _ _
    (known_levels 1 axis-turns-kind
    (some_levels (numeric Varint sint32) (flat_numeric Varint sint32)))
    (known_levels 2 axis-teeth-kind
    (some_levels (numeric Varint uint32) (flat_numeric Varint uint32))))
    (known_levels 3 axis-serial-kind
    (some_levels (numeric Fixed64 fixed64) (flat_numeric Fixed64 fixed64))))
    unknown_levels

pub returns : goal.returns
returns c = keeps_unknown axis-known axis-levels
