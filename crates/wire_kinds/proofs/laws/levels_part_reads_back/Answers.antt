use Rattle.wire_kinds.specs.LevelsPart.{levels_part-returned}
use Rattle.wire_fields.specs.Returned.{reads_back}
use Rattle.wire_kinds.proofs.laws.levels_part_reads_back.Goals as goal

pub returns : goal.returns
returns c = reads_back (levels_part-returned c.grounds.ensures) c.text_decodes.ensures
