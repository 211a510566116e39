use Rattle.wire_jsonfields.proofs.Untold.{chosen_untold}
use Rattle.wire_visits_json.specs.JourneyBackJson.{by-trees, by-view}
use Rattle.wire_visits_json.proofs.journey_back_json.OfByJsonChoice.write.Goals as goal

pub returns-clause-no_text : goal.returns-clause-no_text
returns-clause-no_text c =
    chosen_untold by-trees (λ h. h.now) by-view _ _ c.by_of.ensures
    c.write_chosen.result c.write_chosen.ensures.no_text
