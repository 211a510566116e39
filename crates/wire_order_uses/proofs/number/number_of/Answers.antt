use Rattle.std.proofs.Common.{rules}
use Rattle.wire_order_uses.proofs.number.number_of.Goals as goal

pub returns-clause-ok : goal.returns-clause-ok
returns-clause-ok c = (c.in_ok-order.order, c.in_ok-order.ensures.decoded, search rules)
