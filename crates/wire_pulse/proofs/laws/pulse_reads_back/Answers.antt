use Rattle.wire_pulse.specs.Pulse.{pulse-returned}
use Rattle.wire_fields.specs.Returned.{reads_back}
use Rattle.wire_pulse.proofs.laws.pulse_reads_back.Goals as goal

pub returns : goal.returns
returns c = reads_back (pulse-returned c.grounds.ensures) c.text_decodes.ensures
