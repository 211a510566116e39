use Rattle.wire_well_known.specs.DoubleValue.{double_value-returned}
use Rattle.wire_fields.specs.Returned.{reads_back}
use Rattle.wire_well_known.proofs.laws.double_value_reads_back.Goals as goal

pub returns : goal.returns
returns c = reads_back (double_value-returned c.grounds.ensures) c.text_decodes.ensures
