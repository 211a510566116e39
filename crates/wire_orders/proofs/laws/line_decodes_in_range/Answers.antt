use Rattle.wire_orders.specs.LineStays.{line-stays}
use Rattle.wire_fields.specs.Stays.{decodes_in_range}
use Rattle.wire_orders.proofs.laws.line_decodes_in_range.Goals as goal

pub returns : goal.returns
returns c = decodes_in_range c.grounds.ensures (line-stays c.grounds.ensures)
