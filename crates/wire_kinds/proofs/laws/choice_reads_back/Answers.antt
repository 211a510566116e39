use Rattle.wire_kinds.specs.Choice.{choice-returned}
use Rattle.wire_fields.specs.Returned.{reads_back}
use Rattle.wire_kinds.proofs.laws.choice_reads_back.Goals as goal

pub returns : goal.returns
returns c = reads_back (choice-returned c.grounds.ensures) c.text_decodes.ensures
