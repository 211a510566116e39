use Rattle.wire_kinds.specs.Lists.{lists-returned}
use Rattle.wire_fields.specs.Returned.{reads_back}
use Rattle.wire_kinds.proofs.laws.lists_reads_back.Goals as goal

pub returns : goal.returns
returns c = reads_back (lists-returned c.grounds.ensures) c.text_decodes.ensures
