use Rattle.wire_well_known.specs.StructStays.{struct_-stays}
use Rattle.wire_fields.specs.Stays.{decodes_in_range}
use Rattle.wire_well_known.proofs.laws.struct__decodes_in_range.Goals as goal

pub returns : goal.returns
returns c = decodes_in_range c.grounds.ensures (struct_-stays c.grounds.ensures)
