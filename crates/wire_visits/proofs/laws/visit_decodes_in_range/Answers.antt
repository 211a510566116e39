use Rattle.wire_visits.specs.VisitStays.{visit-stays}
use Rattle.wire_fields.specs.Stays.{decodes_in_range}
use Rattle.wire_visits.proofs.laws.visit_decodes_in_range.Goals as goal

pub returns : goal.returns
returns c = decodes_in_range c.grounds.ensures (visit-stays c.grounds.ensures)
