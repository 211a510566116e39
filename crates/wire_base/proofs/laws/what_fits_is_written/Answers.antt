use Rattle.wire_base.proofs.Rooms.{what_fits_is_written}
use Rattle.wire_base.proofs.laws.what_fits_is_written.Goals as goal

pub returns : goal.returns
returns c = what_fits_is_written
