use Rattle.wire_codec.specs.ValueMap.{sint64}
use Rattle.wire_fields.specs.Enums.{open_enum}
use Rattle.wire_fields.specs.Numbers.{numeric}
use Rattle.wire_fields.specs.declared.form.Form.TheVariants.{Varint}
use Rattle.wire_readings.specs.State.{state-number, state-of}
use Rattle.wire_readings.specs.TotalsStatesEntry.{totals_states_entry-key-kind}
use Rattle.wire_readings.specs.TotalsStatesEntry.{totals_states_entry-known}
use Rattle.wire_readings.specs.TotalsStatesEntry.{totals_states_entry-shape}
use Rattle.wire_readings.specs.TotalsStatesEntry.{totals_states_entry-value-kind}
use Rattle.wire_structs.proofs.KeptUnknown.{keeps_unknown}
use Rattle.wire_structs.specs.ListLaws.{HasLevels, flat_numeric, known_levels, sets_levels}
use Rattle.wire_structs.specs.ListLaws.{two_levels, unknown_levels}
use Rattle.wire_readings.proofs.laws.totals_states_entry_in_c_keeps_unknown.Goals as goal

totals_states_entry-levels : HasLevels totals_states_entry-shape
totals_states_entry-levels =
    two_levels _ _
    (two_levels _ _
    (known_levels 1 totals_states_entry-key-kind
    (sets_levels (numeric Varint sint64) (flat_numeric Varint sint64)))
    (known_levels 2 totals_states_entry-value-kind
    (sets_levels (numeric Varint (open_enum state-number state-of)) (flat_numeric Varint (open_enum state-number state-of)))))
    unknown_levels

pub returns : goal.returns
returns c = keeps_unknown totals_states_entry-known totals_states_entry-levels
