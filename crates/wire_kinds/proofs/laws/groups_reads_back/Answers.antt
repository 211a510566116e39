use Rattle.wire_kinds.specs.Groups.{groups-returned}
use Rattle.wire_fields.specs.Returned.{reads_back}
use Rattle.wire_kinds.proofs.laws.groups_reads_back.Goals as goal

pub returns : goal.returns
returns c = reads_back (groups-returned c.grounds.ensures) c.text_decodes.ensures
