use Rattle.wire_readings.specs.Log.{log-returned}
use Rattle.wire_fields.specs.Returned.{reads_back}
use Rattle.wire_readings.proofs.laws.log_reads_back.Goals as goal

pub returns : goal.returns
returns c = reads_back (log-returned c.grounds.ensures) c.text_decodes.ensures
