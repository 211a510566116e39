use Rattle.wire_jsonfields.proofs.Untold.{chosen_untold}
use Rattle.wire_visits_json.specs.VisitEndedJson.{left-trees, left-view}
use Rattle.wire_visits_json.proofs.visit_ended_json.OfLeftJsonChoice.write.Goals as goal

pub returns-clause-no_text : goal.returns-clause-no_text
returns-clause-no_text c =
    chosen_untold left-trees (λ h. h.now) left-view _ _ c.left_of.ensures
    c.write_chosen.result c.write_chosen.ensures.no_text
