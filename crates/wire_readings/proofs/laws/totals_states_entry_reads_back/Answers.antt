use Rattle.wire_readings.specs.TotalsStatesEntry.{totals_states_entry-returned}
use Rattle.wire_fields.specs.Returned.{reads_back}
use Rattle.wire_readings.proofs.laws.totals_states_entry_reads_back.Goals as goal

pub returns : goal.returns
returns c = reads_back (totals_states_entry-returned c.grounds.ensures) c.text_decodes.ensures
