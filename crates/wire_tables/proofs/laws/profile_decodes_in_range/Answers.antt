use Rattle.wire_tables.specs.ProfileStays.{profile-stays}
use Rattle.wire_fields.specs.Stays.{decodes_in_range}
use Rattle.wire_tables.proofs.laws.profile_decodes_in_range.Goals as goal

pub returns : goal.returns
returns c = decodes_in_range c.grounds.ensures (profile-stays c.grounds.ensures)
