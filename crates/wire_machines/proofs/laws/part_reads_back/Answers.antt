use Rattle.wire_machines.specs.Part.{part-returned}
use Rattle.wire_fields.specs.Returned.{reads_back}
use Rattle.wire_machines.proofs.laws.part_reads_back.Goals as goal

pub returns : goal.returns
returns c = reads_back (part-returned c.grounds.ensures) c.text_decodes.ensures
