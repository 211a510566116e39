use Rattle.wire_tables.specs.ExpressionStays.{expression-stays}
use Rattle.wire_fields.specs.Stays.{decodes_in_range}
use Rattle.wire_tables.proofs.laws.expression_decodes_in_range.Goals as goal

pub returns : goal.returns
returns c = decodes_in_range c.grounds.ensures (expression-stays c.grounds.ensures)
