use Rattle.wire_kinds.specs.Nest.{nest-returned}
use Rattle.wire_fields.specs.Returned.{reads_back}
use Rattle.wire_kinds.proofs.laws.nest_reads_back.Goals as goal

pub returns : goal.returns
returns c = reads_back (nest-returned c.grounds.ensures) c.text_decodes.ensures
