use Rattle.wire_kinds.specs.LeafStays.{leaf-stays}
use Rattle.wire_fields.specs.Stays.{decodes_in_range}
use Rattle.wire_kinds.proofs.laws.leaf_decodes_in_range.Goals as goal

pub returns : goal.returns
returns c = decodes_in_range c.grounds.ensures (leaf-stays c.grounds.ensures)
