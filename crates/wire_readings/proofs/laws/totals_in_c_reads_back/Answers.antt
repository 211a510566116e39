use Rattle.wire_readings.specs.Totals.{totals-range}
use Rattle.wire_readings.specs.TotalsInC.{totals-written}
use Rattle.wire_readings.proofs.laws.totals_in_c_reads_back.Goals as goal

pub returns : goal.returns
returns c limits m l fs holds fits =
    let v = totals-written m l fs in
    (totals-range.charge_of v, c.totals_reads_back.ensures limits v holds fits)
