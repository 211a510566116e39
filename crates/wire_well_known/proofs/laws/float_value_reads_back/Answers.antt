use Rattle.wire_well_known.specs.FloatValue.{float_value-returned}
use Rattle.wire_fields.specs.Returned.{reads_back}
use Rattle.wire_well_known.proofs.laws.float_value_reads_back.Goals as goal

pub returns : goal.returns
returns c = reads_back (float_value-returned c.grounds.ensures) c.text_decodes.ensures
