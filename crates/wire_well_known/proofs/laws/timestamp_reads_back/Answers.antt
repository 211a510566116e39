use Rattle.wire_well_known.specs.Timestamp.{timestamp-returned}
use Rattle.wire_fields.specs.Returned.{reads_back}
use Rattle.wire_well_known.proofs.laws.timestamp_reads_back.Goals as goal

pub returns : goal.returns
returns c = reads_back (timestamp-returned c.grounds.ensures) c.text_decodes.ensures
