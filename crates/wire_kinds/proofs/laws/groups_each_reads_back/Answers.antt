use Rattle.wire_kinds.specs.GroupsEach.{groups_each-returned}
use Rattle.wire_fields.specs.Returned.{reads_back}
use Rattle.wire_kinds.proofs.laws.groups_each_reads_back.Goals as goal

pub returns : goal.returns
returns c = reads_back (groups_each-returned c.grounds.ensures) c.text_decodes.ensures
