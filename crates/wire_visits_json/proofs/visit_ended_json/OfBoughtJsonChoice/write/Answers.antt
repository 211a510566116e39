use Rattle.wire_jsonfields.proofs.Untold.{chosen_untold}
use Rattle.wire_visits_json.specs.VisitEndedJson.{bought-trees, bought-view}
use Rattle.wire_visits_json.proofs.visit_ended_json.OfBoughtJsonChoice.write.Goals as goal

pub returns-clause-no_text : goal.returns-clause-no_text
returns-clause-no_text c =
    chosen_untold bought-trees (λ h. h.now) bought-view _ _ c.bought_of.ensures
    c.write_chosen.result c.write_chosen.ensures.no_text
