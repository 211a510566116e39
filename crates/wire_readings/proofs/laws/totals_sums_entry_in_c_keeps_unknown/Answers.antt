use Rattle.std.specs.Prelude.{IsUtf8}
use Rattle.wire_codec.specs.ValueMap.{int32}
use Rattle.wire_fields.specs.Numbers.{numeric}
use Rattle.wire_fields.specs.Texts.{string}
use Rattle.wire_fields.specs.declared.form.Form.TheVariants.{Varint}
use Rattle.wire_readings.specs.TotalsSumsEntry.{totals_sums_entry-key-kind, totals_sums_entry-known}
use Rattle.wire_readings.specs.TotalsSumsEntry.{totals_sums_entry-shape}
use Rattle.wire_readings.specs.TotalsSumsEntry.{totals_sums_entry-value-kind}
use Rattle.wire_structs.proofs.KeptUnknown.{keeps_unknown}
use Rattle.wire_structs.specs.ListLaws.{HasLevels, flat_delimited, flat_numeric, known_levels}
use Rattle.wire_structs.specs.ListLaws.{sets_levels, two_levels, unknown_levels}
use Rattle.wire_readings.proofs.laws.totals_sums_entry_in_c_keeps_unknown.Goals as goal

totals_sums_entry-levels : HasLevels totals_sums_entry-shape
totals_sums_entry-levels =
    two_levels _ _
    (two_levels _ _
    (known_levels 1 totals_sums_entry-key-kind
    (sets_levels string (flat_delimited IsUtf8)))
    (known_levels 2 totals_sums_entry-value-kind
    (sets_levels (numeric Varint int32) (flat_numeric Varint int32))))
    unknown_levels

pub returns : goal.returns
returns c = keeps_unknown totals_sums_entry-known totals_sums_entry-levels
