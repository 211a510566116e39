use Rattle.wire_albums.specs.WearsStays.{wears-stays}
use Rattle.wire_fields.specs.Stays.{decodes_in_range}
use Rattle.wire_albums.proofs.laws.wears_decodes_in_range.Goals as goal

pub returns : goal.returns
returns c = decodes_in_range c.grounds.ensures (wears-stays c.grounds.ensures)
