use Rattle.wire_readings.proofs.TotalsLastEntryInCShows.{totals_last_entry-same}
use Rattle.wire_readings.specs.TotalsLastEntry.{totals_last_entry-range}
use Rattle.wire_readings.specs.TotalsLastEntryInC.{totals_last_entry-written}
use Rattle.wire_readings.proofs.laws.totals_last_entry_in_c_reads_back.Goals as goal

pub returns : goal.returns
returns c l m fs holds fits =
    let v = totals_last_entry-written m fs in (
      (totals_last_entry-range.charge_of v, c.totals_last_entry_reads_back.ensures l v holds fits),
      totals_last_entry-same m fs,
    )
