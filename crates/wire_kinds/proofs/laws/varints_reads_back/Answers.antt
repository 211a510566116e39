use Rattle.wire_kinds.specs.Varints.{varints-returned}
use Rattle.wire_fields.specs.Returned.{reads_back}
use Rattle.wire_kinds.proofs.laws.varints_reads_back.Goals as goal

pub returns : goal.returns
returns c = reads_back (varints-returned c.grounds.ensures) c.text_decodes.ensures
