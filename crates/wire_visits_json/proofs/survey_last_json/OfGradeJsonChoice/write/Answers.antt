use Rattle.wire_jsonfields.proofs.Untold.{chosen_untold}
use Rattle.wire_visits_json.specs.SurveyLastJson.{grade-trees, grade-view}
use Rattle.wire_visits_json.proofs.survey_last_json.OfGradeJsonChoice.write.Goals as goal

pub returns-clause-no_text : goal.returns-clause-no_text
returns-clause-no_text c =
    chosen_untold grade-trees (λ h. h.now) grade-view _ _ c.grade_of.ensures
    c.write_chosen.result c.write_chosen.ensures.no_text
