use Rattle.wire_well_known.specs.Value.{value-returned}
use Rattle.wire_fields.specs.Returned.{reads_back}
use Rattle.wire_well_known.proofs.laws.value_reads_back.Goals as goal

pub returns : goal.returns
returns c = reads_back (value-returned c.grounds.ensures) c.text_decodes.ensures
