use Rattle.wire_trips.specs.Trip.{trip-returned}
use Rattle.wire_fields.specs.Returned.{reads_back}
use Rattle.wire_trips.proofs.laws.trip_reads_back.Goals as goal

pub returns : goal.returns
returns c = reads_back (trip-returned c.grounds.ensures) c.text_decodes.ensures
