use Rattle.wire_orders.specs.Condition.{condition-returned}
use Rattle.wire_fields.specs.Returned.{reads_back}
use Rattle.wire_orders.proofs.laws.condition_reads_back.Goals as goal

pub returns : goal.returns
returns c =
    λ charges. reads_back (condition-returned charges c.grounds.ensures) c.text_decodes.ensures
