use Rattle.wire_well_known.specs.UInt64Value.{uint64_value-returned}
use Rattle.wire_fields.specs.Returned.{reads_back}
use Rattle.wire_well_known.proofs.laws.uint64_value_reads_back.Goals as goal

pub returns : goal.returns
returns c = reads_back (uint64_value-returned c.grounds.ensures) c.text_decodes.ensures
