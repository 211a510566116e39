use Rattle.wire_orders.specs.Order.{order-returned}
use Rattle.wire_fields.specs.Returned.{reads_back}
use Rattle.wire_orders.proofs.laws.order_reads_back.Goals as goal

pub returns : goal.returns
returns c = reads_back (order-returned c.grounds.ensures) c.text_decodes.ensures
