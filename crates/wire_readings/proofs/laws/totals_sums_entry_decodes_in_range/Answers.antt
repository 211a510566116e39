use Rattle.wire_readings.specs.TotalsSumsEntryStays.{totals_sums_entry-stays}
use Rattle.wire_fields.specs.Stays.{decodes_in_range}
use Rattle.wire_readings.proofs.laws.totals_sums_entry_decodes_in_range.Goals as goal

pub returns : goal.returns
returns c = decodes_in_range c.grounds.ensures (totals_sums_entry-stays c.grounds.ensures)
