use Rattle.wire_structs.proofs.KeptUnknown.{keeps_unknown}
use Rattle.wire_readings.specs.Plan.{plan-known}
use Rattle.wire_readings.specs.PlanInCLists.{plan-levels}
use Rattle.wire_readings.proofs.laws.plan_in_c_keeps_unknown.Goals as goal

pub returns : goal.returns
returns c = keeps_unknown plan-known plan-levels
