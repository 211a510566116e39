use Rattle.wire_well_known.specs.StructFieldsEntry.{struct_fields_entry-returned}
use Rattle.wire_fields.specs.Returned.{reads_back}
use Rattle.wire_well_known.proofs.laws.struct_fields_entry_reads_back.Goals as goal

pub returns : goal.returns
returns c = reads_back (struct_fields_entry-returned c.grounds.ensures) c.text_decodes.ensures
