use Rattle.wire_jsonfields.proofs.Untold.{chosen_untold}
use Rattle.wire_trips_json.specs.TripPaidJson.{ticket_number-trees, ticket_number-view}
use Rattle.wire_trips_json.proofs.trip_paid_json.OfTicketNumberJsonChoice.write.Goals as goal

pub returns-clause-no_text : goal.returns-clause-no_text
returns-clause-no_text c =
    chosen_untold ticket_number-trees (λ h. h.now) ticket_number-view _ _ c.ticket_number_of.ensures
    c.write_chosen.result c.write_chosen.ensures.no_text
