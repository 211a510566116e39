use Rattle.wire_orders.specs.OrderAddress.{order_address-returned}
use Rattle.wire_fields.specs.Returned.{reads_back}
use Rattle.wire_orders.proofs.laws.order_address_reads_back.Goals as goal

pub returns : goal.returns
returns c = reads_back (order_address-returned c.grounds.ensures) c.text_decodes.ensures
