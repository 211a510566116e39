use Rattle.wire_kinds.specs.LevelsPartStays.{levels_part-stays}
use Rattle.wire_fields.specs.Stays.{decodes_in_range}
use Rattle.wire_kinds.proofs.laws.levels_part_decodes_in_range.Goals as goal

pub returns : goal.returns
returns c = decodes_in_range c.grounds.ensures (levels_part-stays c.grounds.ensures)
