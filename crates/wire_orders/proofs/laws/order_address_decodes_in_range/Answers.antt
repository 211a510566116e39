use Rattle.wire_orders.specs.OrderAddressStays.{order_address-stays}
use Rattle.wire_fields.specs.Stays.{decodes_in_range}
use Rattle.wire_orders.proofs.laws.order_address_decodes_in_range.Goals as goal

pub returns : goal.returns
returns c = decodes_in_range c.grounds.ensures (order_address-stays c.grounds.ensures)
