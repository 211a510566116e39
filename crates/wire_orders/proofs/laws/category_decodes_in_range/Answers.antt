use Rattle.wire_orders.specs.CategoryStays.{category-stays}
use Rattle.wire_fields.specs.Stays.{decodes_in_range}
use Rattle.wire_orders.proofs.laws.category_decodes_in_range.Goals as goal

pub returns : goal.returns
returns c = decodes_in_range c.grounds.ensures (category-stays c.grounds.ensures)
