use Rattle.wire_well_known.specs.BytesValue.{bytes_value-returned}
use Rattle.wire_fields.specs.Returned.{reads_back}
use Rattle.wire_well_known.proofs.laws.bytes_value_reads_back.Goals as goal

pub returns : goal.returns
returns c = reads_back (bytes_value-returned c.grounds.ensures) c.text_decodes.ensures
