use Rattle.wire_orders.specs.RebateUnlessEntry.{rebate_unless_entry-returned}
use Rattle.wire_fields.specs.Returned.{reads_back}
use Rattle.wire_orders.proofs.laws.rebate_unless_entry_reads_back.Goals as goal

pub returns : goal.returns
returns c =
    λ charges. reads_back (rebate_unless_entry-returned charges c.grounds.ensures) c.text_decodes.ensures
