use Rattle.wire_orders.specs.RebateStays.{rebate-stays}
use Rattle.wire_fields.specs.Stays.{decodes_in_range}
use Rattle.wire_orders.proofs.laws.rebate_decodes_in_range.Goals as goal

pub returns : goal.returns
returns c = decodes_in_range c.grounds.ensures (rebate-stays c.grounds.ensures)
