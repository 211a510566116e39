use Rattle.std.specs.Prelude.{IsUtf8}
use Rattle.wire_codec.specs.ValueMap.{uint32}
use Rattle.wire_fields.specs.Numbers.{numeric}
use Rattle.wire_fields.specs.Texts.{string}
use Rattle.wire_fields.specs.declared.form.Form.TheVariants.{Varint}
use Rattle.wire_readings.specs.Point.{point-shape}
use Rattle.wire_readings.specs.Visit.{visit-at-kind, visit-by-kind, visit-known, visit-minutes-kind}
use Rattle.wire_readings.specs.Visit.{visit-shape}
use Rattle.wire_readings.specs.VisitCauseInC.{visit_cause-levels}
use Rattle.wire_readings.specs.VisitOutcomeInC.{visit_outcome-levels}
use Rattle.wire_structs.proofs.KeptUnknown.{keeps_unknown}
use Rattle.wire_structs.specs.ListLaws.{HasLevels, flat_delimited, flat_numeric, known_levels}
use Rattle.wire_structs.specs.ListLaws.{merges_levels, sets_levels, some_levels, two_levels}
use Rattle.wire_structs.specs.ListLaws.{unknown_levels}
use Rattle.wire_readings.proofs.laws.visit_in_c_keeps_unknown.Goals as goal

visit-levels : HasLevels visit-shape
visit-levels =
    two_levels _ _
    (two_levels _ _
    (two_levels _ _
    (two_levels _ _
    (known_levels 1 visit-by-kind
    (sets_levels string (flat_delimited IsUtf8)))
    (visit_cause-levels))
    (two_levels _ _
    (known_levels 5 visit-minutes-kind
    (some_levels (numeric Varint uint32) (flat_numeric Varint uint32)))
    (visit_outcome-levels)))
    (known_levels 9 visit-at-kind
    (merges_levels point-shape.takes point-shape.default)))
    unknown_levels

pub returns : goal.returns
returns c = keeps_unknown visit-known visit-levels
