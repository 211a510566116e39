use Rattle.wire_well_known.specs.FieldMaskStays.{field_mask-stays}
use Rattle.wire_fields.specs.Stays.{decodes_in_range}
use Rattle.wire_well_known.proofs.laws.field_mask_decodes_in_range.Goals as goal

pub returns : goal.returns
returns c = decodes_in_range c.grounds.ensures (field_mask-stays c.grounds.ensures)
