use Rattle.wire_base.proofs.Items.{item_bytes-most}
use Rattle.wire_base.proofs.laws.payloads_inside.Goals as goal

pub returns : goal.returns
returns c = item_bytes-most
