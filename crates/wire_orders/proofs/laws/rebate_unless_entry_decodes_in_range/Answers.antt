use Rattle.wire_orders.specs.RebateUnlessEntryStays.{rebate_unless_entry-stays}
use Rattle.wire_fields.specs.Stays.{decodes_in_range}
use Rattle.wire_orders.proofs.laws.rebate_unless_entry_decodes_in_range.Goals as goal

pub returns : goal.returns
returns c = decodes_in_range c.grounds.ensures (rebate_unless_entry-stays c.grounds.ensures)
