use Rattle.wire_readings.specs.TotalsLastEntry.{totals_last_entry-returned}
use Rattle.wire_fields.specs.Returned.{reads_back}
use Rattle.wire_readings.proofs.laws.totals_last_entry_reads_back.Goals as goal

pub returns : goal.returns
returns c = reads_back (totals_last_entry-returned c.grounds.ensures) c.text_decodes.ensures
