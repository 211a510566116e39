use Rattle.wire_well_known.specs.StructFieldsEntryStays.{struct_fields_entry-stays}
use Rattle.wire_fields.specs.Stays.{decodes_in_range}
use Rattle.wire_well_known.proofs.laws.struct_fields_entry_decodes_in_range.Goals as goal

pub returns : goal.returns
returns c = decodes_in_range c.grounds.ensures (struct_fields_entry-stays c.grounds.ensures)
