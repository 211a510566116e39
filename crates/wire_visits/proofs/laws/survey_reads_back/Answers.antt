use Rattle.wire_visits.specs.Survey.{survey-returned}
use Rattle.wire_fields.specs.Returned.{reads_back}
use Rattle.wire_visits.proofs.laws.survey_reads_back.Goals as goal

pub returns : goal.returns
returns c = reads_back (survey-returned c.grounds.ensures) c.text_decodes.ensures
