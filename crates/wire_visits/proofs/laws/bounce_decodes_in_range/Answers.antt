use Rattle.wire_visits.specs.BounceStays.{bounce-stays}
use Rattle.wire_fields.specs.Stays.{decodes_in_range}
use Rattle.wire_visits.proofs.laws.bounce_decodes_in_range.Goals as goal

pub returns : goal.returns
returns c = decodes_in_range c.grounds.ensures (bounce-stays c.grounds.ensures)
