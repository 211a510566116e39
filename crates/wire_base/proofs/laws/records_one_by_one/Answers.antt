use Rattle.wire_base.proofs.Takes.{records_one_by_one}
use Rattle.wire_base.proofs.laws.records_one_by_one.Goals as goal

pub returns : goal.returns
returns c = records_one_by_one
