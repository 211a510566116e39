use Rattle.wire_kinds.specs.MapsStays.{maps-stays}
use Rattle.wire_fields.specs.Stays.{decodes_in_range}
use Rattle.wire_kinds.proofs.laws.maps_decodes_in_range.Goals as goal

pub returns : goal.returns
returns c = decodes_in_range c.grounds.ensures (maps-stays c.grounds.ensures)
