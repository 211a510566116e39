use Rattle.wire_meter.specs.Meter.{meter-returned}
use Rattle.wire_fields.specs.Returned.{reads_back}
use Rattle.wire_meter.proofs.laws.meter_reads_back.Goals as goal

pub returns : goal.returns
returns c = reads_back (meter-returned c.grounds.ensures) c.text_decodes.ensures
