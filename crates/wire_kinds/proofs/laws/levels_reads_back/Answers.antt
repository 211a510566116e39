use Rattle.wire_kinds.specs.Levels.{levels-returned}
use Rattle.wire_fields.specs.Returned.{reads_back}
use Rattle.wire_kinds.proofs.laws.levels_reads_back.Goals as goal

pub returns : goal.returns
returns c = reads_back (levels-returned c.grounds.ensures) c.text_decodes.ensures
