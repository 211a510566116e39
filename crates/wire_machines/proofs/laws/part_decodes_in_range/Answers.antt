use Rattle.wire_machines.specs.PartStays.{part-stays}
use Rattle.wire_fields.specs.Stays.{decodes_in_range}
use Rattle.wire_machines.proofs.laws.part_decodes_in_range.Goals as goal

pub returns : goal.returns
returns c = decodes_in_range c.grounds.ensures (part-stays c.grounds.ensures)
