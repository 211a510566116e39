use Rattle.wire_readings.proofs.TotalsStatesEntryInCShows.{totals_states_entry-same}
use Rattle.wire_readings.specs.TotalsStatesEntry.{totals_states_entry-range}
use Rattle.wire_readings.specs.TotalsStatesEntryInC.{totals_states_entry-written}
use Rattle.wire_readings.proofs.laws.totals_states_entry_in_c_reads_back.Goals as goal

pub returns : goal.returns
returns c l m fs holds fits =
    let v = totals_states_entry-written m fs in (
      (totals_states_entry-range.charge_of v, c.totals_states_entry_reads_back.ensures l v holds fits),
      totals_states_entry-same m fs,
    )
