use Rattle.wire_jsonfields.proofs.Untold.{chosen_untold}
use Rattle.wire_visits_json.specs.VisitEndedJson.{idle-trees, idle-view}
use Rattle.wire_visits_json.proofs.visit_ended_json.OfIdleJsonChoice.write.Goals as goal

pub returns-clause-no_text : goal.returns-clause-no_text
returns-clause-no_text c =
    chosen_untold idle-trees (λ h. h.now) idle-view _ _ c.idle_of.ensures
    c.write_chosen.result c.write_chosen.ensures.no_text
