use Rattle.wire_trips.specs.TripStays.{trip-stays}
use Rattle.wire_fields.specs.Stays.{decodes_in_range}
use Rattle.wire_trips.proofs.laws.trip_decodes_in_range.Goals as goal

pub returns : goal.returns
returns c = decodes_in_range c.grounds.ensures (trip-stays c.grounds.ensures)
