use Rattle.wire_readings.specs.Series.{series-range}
use Rattle.wire_readings.specs.SeriesInC.{series-written}
use Rattle.wire_readings.proofs.laws.series_in_c_reads_back.Goals as goal

pub returns : goal.returns
returns c limits m l fs holds fits =
    let v = series-written m l fs in
    (series-range.charge_of v, c.series_reads_back.ensures limits v holds fits)
