use Rattle.wire_jsonfields.proofs.Untold.{chosen_untold}
use Rattle.wire_visits_json.specs.VisitEndedJson.{bounced-trees, bounced-view}
use Rattle.wire_visits_json.proofs.visit_ended_json.OfBouncedJsonChoice.write.Goals as goal

pub returns-clause-no_text : goal.returns-clause-no_text
returns-clause-no_text c =
    chosen_untold bounced-trees (λ h. h.now) bounced-view _ _ c.bounced_of.ensures
    c.write_chosen.result c.write_chosen.ensures.no_text
