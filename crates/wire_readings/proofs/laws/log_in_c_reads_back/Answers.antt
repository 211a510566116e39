use Rattle.wire_readings.specs.Log.{log-range}
use Rattle.wire_readings.specs.LogInC.{log-written}
use Rattle.wire_readings.proofs.laws.log_in_c_reads_back.Goals as goal

pub returns : goal.returns
returns c limits m l fs holds fits =
    let v = log-written m l fs in
    (log-range.charge_of v, c.log_reads_back.ensures limits v holds fits)
