use Rattle.wire_kinds.specs.ListsStays.{lists-stays}
use Rattle.wire_fields.specs.Stays.{decodes_in_range}
use Rattle.wire_kinds.proofs.laws.lists_decodes_in_range.Goals as goal

pub returns : goal.returns
returns c = decodes_in_range c.grounds.ensures (lists-stays c.grounds.ensures)
