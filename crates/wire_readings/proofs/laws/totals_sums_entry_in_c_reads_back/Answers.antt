use Rattle.wire_readings.proofs.TotalsSumsEntryInCShows.{totals_sums_entry-same}
use Rattle.wire_readings.specs.TotalsSumsEntry.{totals_sums_entry-range}
use Rattle.wire_readings.specs.TotalsSumsEntryInC.{totals_sums_entry-written}
use Rattle.wire_readings.proofs.laws.totals_sums_entry_in_c_reads_back.Goals as goal

pub returns : goal.returns
returns c l m fs holds fits =
    let v = totals_sums_entry-written m fs in (
      (totals_sums_entry-range.charge_of v, c.totals_sums_entry_reads_back.ensures l v holds fits),
      totals_sums_entry-same m fs,
    )
