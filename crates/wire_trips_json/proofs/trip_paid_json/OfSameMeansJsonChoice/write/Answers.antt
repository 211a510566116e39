use Rattle.wire_jsonfields.proofs.Untold.{chosen_untold}
use Rattle.wire_trips_json.specs.TripPaidJson.{same_means-trees, same_means-view}
use Rattle.wire_trips_json.proofs.trip_paid_json.OfSameMeansJsonChoice.write.Goals as goal

pub returns-clause-no_text : goal.returns-clause-no_text
returns-clause-no_text c =
    chosen_untold same_means-trees (λ h. h.now) same_means-view _ _ c.same_means_of.ensures
    c.write_chosen.result c.write_chosen.ensures.no_text
