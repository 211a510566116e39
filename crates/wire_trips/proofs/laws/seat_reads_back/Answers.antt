use Rattle.wire_trips.specs.Seat.{seat-returned}
use Rattle.wire_fields.specs.Returned.{reads_back}
use Rattle.wire_trips.proofs.laws.seat_reads_back.Goals as goal

pub returns : goal.returns
returns c =
    λ charges. reads_back (seat-returned charges c.grounds.ensures) c.text_decodes.ensures
