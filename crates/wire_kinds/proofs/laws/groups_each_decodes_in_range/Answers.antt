use Rattle.wire_kinds.specs.GroupsEachStays.{groups_each-stays}
use Rattle.wire_fields.specs.Stays.{decodes_in_range}
use Rattle.wire_kinds.proofs.laws.groups_each_decodes_in_range.Goals as goal

pub returns : goal.returns
returns c = decodes_in_range c.grounds.ensures (groups_each-stays c.grounds.ensures)
