use Rattle.wire_readings.specs.PlanStays.{plan-stays}
use Rattle.wire_fields.specs.Stays.{decodes_in_range}
use Rattle.wire_readings.proofs.laws.plan_decodes_in_range.Goals as goal

pub returns : goal.returns
returns c = decodes_in_range c.grounds.ensures (plan-stays c.grounds.ensures)
