use Rattle.wire_read.proofs.Rebuilding.{items_tell}
use Rattle.wire_read.proofs.laws.items_tell_records.Goals as goal

pub returns : goal.returns
returns c = items_tell
