use Rattle.wire_well_known.specs.Struct.{struct_-returned}
use Rattle.wire_fields.specs.Returned.{reads_back}
use Rattle.wire_well_known.proofs.laws.struct__reads_back.Goals as goal

pub returns : goal.returns
returns c = reads_back (struct_-returned c.grounds.ensures) c.text_decodes.ensures
