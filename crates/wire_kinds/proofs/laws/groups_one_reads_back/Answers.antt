use Rattle.wire_kinds.specs.GroupsOne.{groups_one-returned}
use Rattle.wire_fields.specs.Returned.{reads_back}
use Rattle.wire_kinds.proofs.laws.groups_one_reads_back.Goals as goal

pub returns : goal.returns
returns c = reads_back (groups_one-returned c.grounds.ensures) c.text_decodes.ensures
