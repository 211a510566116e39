use Rattle.wire_structs.proofs.Shown.{decodes_back, not_decoded_back}
use Rattle.wire_readings.proofs.PlanInCShows.{plan-shows}
use Rattle.wire_readings.specs.Plan.{plan-shape}
use Rattle.wire_readings.specs.PlanInC.{plan-seen, plan-struct}
use Rattle.wire_readings.proofs.plan_in_c.read_plan.Goals as goal

pub returns-clause-ok : goal.returns-clause-ok
returns-clause-ok c = λ is.
    decodes_back plan-seen plan-shape.takes plan-struct.takes
    plan-shows.steps _ plan-shape.default _ _ (c.read_status.ensures.ok is)

pub returns-clause-err : goal.returns-clause-err
returns-clause-err c = λ is.
    not_decoded_back plan-seen plan-shape.takes plan-struct.takes
    plan-shows.steps _ plan-shape.default _ (c.read_status.ensures.err is)
