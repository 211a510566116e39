use Rattle.wire_readings.specs.Plan.{plan-returned}
use Rattle.wire_fields.specs.Returned.{reads_back}
use Rattle.wire_readings.proofs.laws.plan_reads_back.Goals as goal

pub returns : goal.returns
returns c = reads_back (plan-returned c.grounds.ensures) c.text_decodes.ensures
