use Rattle.wire_jsonfields.proofs.Untold.{chosen_untold}
use Rattle.wire_visits_json.specs.SurveyLastJson.{silence-trees, silence-view}
use Rattle.wire_visits_json.proofs.survey_last_json.OfSilenceJsonChoice.write.Goals as goal

pub returns-clause-no_text : goal.returns-clause-no_text
returns-clause-no_text c =
    chosen_untold silence-trees (λ h. h.now) silence-view _ _ c.silence_of.ensures
    c.write_chosen.result c.write_chosen.ensures.no_text
