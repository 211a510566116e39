use Rattle.wire_jsonfields.proofs.Untold.{chosen_untold}
use Rattle.wire_visits_json.specs.SurveyLastJson.{word-trees, word-view}
use Rattle.wire_visits_json.proofs.survey_last_json.OfWordJsonChoice.write.Goals as goal

pub returns-clause-no_text : goal.returns-clause-no_text
returns-clause-no_text c =
    chosen_untold word-trees (λ h. h.now) word-view _ _ c.word_of.ensures
    c.write_chosen.result c.write_chosen.ensures.no_text
