use Rattle.wire_jsonfields.proofs.Untold.{chosen_untold}
use Rattle.wire_visits_json.specs.JourneyBackJson.{note-trees, note-view}
use Rattle.wire_visits_json.proofs.journey_back_json.OfNoteJsonChoice.write.Goals as goal

pub returns-clause-no_text : goal.returns-clause-no_text
returns-clause-no_text c =
    chosen_untold note-trees (λ h. h.now) note-view _ _ c.note_of.ensures
    c.write_chosen.result c.write_chosen.ensures.no_text
