use Rattle.wire_orders.specs.Money.{money-returned}
use Rattle.wire_fields.specs.Returned.{reads_back}
use Rattle.wire_orders.proofs.laws.money_reads_back.Goals as goal

pub returns : goal.returns
returns c = reads_back (money-returned c.grounds.ensures) c.text_decodes.ensures
