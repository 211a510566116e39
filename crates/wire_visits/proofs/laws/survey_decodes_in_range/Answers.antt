use Rattle.wire_visits.specs.SurveyStays.{survey-stays}
use Rattle.wire_fields.specs.Stays.{decodes_in_range}
use Rattle.wire_visits.proofs.laws.survey_decodes_in_range.Goals as goal

pub returns : goal.returns
returns c = decodes_in_range c.grounds.ensures (survey-stays c.grounds.ensures)
