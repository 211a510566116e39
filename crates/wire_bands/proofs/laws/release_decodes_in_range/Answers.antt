use Rattle.wire_bands.specs.ReleaseStays.{release-stays}
use Rattle.wire_fields.specs.Stays.{decodes_in_range}
use Rattle.wire_bands.proofs.laws.release_decodes_in_range.Goals as goal

pub returns : goal.returns
returns c = decodes_in_range c.grounds.ensures (release-stays c.grounds.ensures)
