use Rattle.wire_visits.specs.Journey.{journey-returned}
use Rattle.wire_fields.specs.Returned.{reads_back}
use Rattle.wire_visits.proofs.laws.journey_reads_back.Goals as goal

pub returns : goal.returns
returns c =
    λ charges. reads_back (journey-returned charges c.grounds.ensures) c.text_decodes.ensures
