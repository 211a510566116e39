use Rattle.wire_pulse.specs.PulseStays.{pulse-stays}
use Rattle.wire_fields.specs.Stays.{decodes_in_range}
use Rattle.wire_pulse.proofs.laws.pulse_decodes_in_range.Goals as goal

pub returns : goal.returns
returns c = decodes_in_range c.grounds.ensures (pulse-stays c.grounds.ensures)
