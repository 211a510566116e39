use Rattle.wire_read.proofs.OneFaults.{stops}
use Rattle.wire_read.proofs.laws.reader_stops.Goals as goal

pub returns : goal.returns
returns c = stops c.reader_is_stuck.ensures c.fault_is_behind_longest.ensures
