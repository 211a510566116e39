use Rattle.wire_well_known.specs.Int64Value.{int64_value-returned}
use Rattle.wire_fields.specs.Returned.{reads_back}
use Rattle.wire_well_known.proofs.laws.int64_value_reads_back.Goals as goal

pub returns : goal.returns
returns c = reads_back (int64_value-returned c.grounds.ensures) c.text_decodes.ensures
