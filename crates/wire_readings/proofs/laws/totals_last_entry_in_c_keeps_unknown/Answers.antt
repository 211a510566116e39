use Rattle.wire_codec.specs.ValueMap.{uint32}
use Rattle.wire_fields.specs.Numbers.{numeric}
use Rattle.wire_fields.specs.declared.form.Form.TheVariants.{Varint}
use Rattle.wire_readings.specs.Reading.{reading-shape}
use Rattle.wire_readings.specs.TotalsLastEntry.{totals_last_entry-key-kind, totals_last_entry-known}
use Rattle.wire_readings.specs.TotalsLastEntry.{totals_last_entry-shape}
use Rattle.wire_readings.specs.TotalsLastEntry.{totals_last_entry-value-kind}
use Rattle.wire_structs.proofs.KeptUnknown.{keeps_unknown}
use Rattle.wire_structs.specs.ListLaws.{HasLevels, flat_numeric, known_levels, merges_levels}
use Rattle.wire_structs.specs.ListLaws.{sets_levels, two_levels, unknown_levels}
use Rattle.wire_readings.proofs.laws.totals_last_entry_in_c_keeps_unknown.Goals as goal

totals_last_entry-levels : HasLevels totals_last_entry-shape
totals_last_entry-levels =
    two_levels _ _
    (two_levels _ _
    (known_levels 1 totals_last_entry-key-kind
    (sets_levels (numeric Varint uint32) (flat_numeric Varint uint32)))
    (known_levels 2 totals_last_entry-value-kind
    (merges_levels reading-shape.takes reading-shape.default)))
    unknown_levels

pub returns : goal.returns
returns c = keeps_unknown totals_last_entry-known totals_last_entry-levels
