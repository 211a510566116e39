use Rattle.wire_visits.specs.JourneyStays.{journey-stays}
use Rattle.wire_fields.specs.Stays.{decodes_in_range}
use Rattle.wire_visits.proofs.laws.journey_decodes_in_range.Goals as goal

pub returns : goal.returns
returns c = decodes_in_range c.grounds.ensures (journey-stays c.grounds.ensures)
