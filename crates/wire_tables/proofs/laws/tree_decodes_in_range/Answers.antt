use Rattle.wire_tables.specs.TreeStays.{tree-stays}
use Rattle.wire_fields.specs.Stays.{decodes_in_range}
use Rattle.wire_tables.proofs.laws.tree_decodes_in_range.Goals as goal

pub returns : goal.returns
returns c = decodes_in_range c.grounds.ensures (tree-stays c.grounds.ensures)
