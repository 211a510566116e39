use Rattle.wire_dump.proofs.One.{one_shortened}
use Rattle.wire_dump.proofs.laws.one_shortened.Goals as goal

pub returns : goal.returns
returns c = one_shortened c.one_spelled.ensures
