use Rattle.wire_read.proofs.OneFaults.{one_fault}
use Rattle.wire_read.proofs.laws.one_fault.Goals as goal

pub returns : goal.returns
returns c = one_fault c.one_longest_front.ensures c.one_part_fault.ensures
