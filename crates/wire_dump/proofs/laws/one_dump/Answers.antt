use Rattle.wire_dump.proofs.One.{one_dump}
use Rattle.wire_dump.proofs.laws.one_dump.Goals as goal

pub returns : goal.returns
returns c = one_dump c.one_tag.ensures c.one_payload.ensures c.one_spelled.ensures
