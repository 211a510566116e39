use Rattle.wire_machines.specs.Axis.{axis-returned}
use Rattle.wire_fields.specs.Returned.{reads_back}
use Rattle.wire_machines.proofs.laws.axis_reads_back.Goals as goal

pub returns : goal.returns
returns c = reads_back (axis-returned c.grounds.ensures) c.text_decodes.ensures
