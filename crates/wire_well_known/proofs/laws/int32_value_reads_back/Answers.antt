use Rattle.wire_well_known.specs.Int32Value.{int32_value-returned}
use Rattle.wire_fields.specs.Returned.{reads_back}
use Rattle.wire_well_known.proofs.laws.int32_value_reads_back.Goals as goal

pub returns : goal.returns
returns c = reads_back (int32_value-returned c.grounds.ensures) c.text_decodes.ensures
