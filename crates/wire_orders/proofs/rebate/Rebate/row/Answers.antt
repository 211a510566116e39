use Rattle.std.proofs.Common.{◌∙◌, ap, map, sym}
use Rattle.wire_fields.specs.Nest.{listed_row}
use Rattle.wire_orders.specs.ConditionFamily as family
use Rattle.wire_orders.specs.declared.rebate.Rebate.{fold_out-Rebate}
use Rattle.wire_orders.proofs.rebate.Rebate.row.Goals as goal

pub returns-in-1-clause-messages : goal.returns-in-1-clause-messages
returns-in-1-clause-messages c =
    rw (c.in-1.is, fold_out-Rebate family.ConditionTest-Held family.Family-Tree family.Family-Tree family.Family-Tree family.condition_test-one family.condition-one family.rebate-one family.rebate_unless_entry-one c.args.self.now)
    (ap (map family.rebate_unless_entry-value) (c.deref-in-1).ensures.value ∙ sym (listed_row _))
