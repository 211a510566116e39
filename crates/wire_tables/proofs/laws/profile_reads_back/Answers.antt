use Rattle.wire_tables.specs.Profile.{profile-returned}
use Rattle.wire_fields.specs.Returned.{reads_back}
use Rattle.wire_tables.proofs.laws.profile_reads_back.Goals as goal

pub returns : goal.returns
returns c = reads_back (profile-returned c.grounds.ensures) c.text_decodes.ensures
