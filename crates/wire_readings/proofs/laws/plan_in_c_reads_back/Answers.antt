use Rattle.wire_readings.specs.Plan.{plan-range}
use Rattle.wire_readings.specs.PlanInC.{plan-written}
use Rattle.wire_readings.proofs.laws.plan_in_c_reads_back.Goals as goal

pub returns : goal.returns
returns c limits m l fs holds fits =
    let v = plan-written m l fs in
    (plan-range.charge_of v, c.plan_reads_back.ensures limits v holds fits)
