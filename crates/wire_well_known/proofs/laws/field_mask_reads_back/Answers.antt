use Rattle.wire_well_known.specs.FieldMask.{field_mask-returned}
use Rattle.wire_fields.specs.Returned.{reads_back}
use Rattle.wire_well_known.proofs.laws.field_mask_reads_back.Goals as goal

pub returns : goal.returns
returns c = reads_back (field_mask-returned c.grounds.ensures) c.text_decodes.ensures
