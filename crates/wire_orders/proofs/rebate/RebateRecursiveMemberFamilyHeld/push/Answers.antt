use Rattle.std.proofs.Common.{◌∙◌}
use Rattle.std.proofs.lemmas.Result.{on_ok_weaker}
use Rattle.wire_fields.specs.Nest.{listed_row, row_pushed}
use Rattle.wire_orders.specs.ConditionFamily as family
use Rattle.wire_orders.specs.declared.condition_test.ConditionTest.{ConditionTest}
use Rattle.wire_orders.specs.declared.condition.Condition.{Condition}
use Rattle.wire_orders.specs.declared.rebate.Rebate.{Rebate}
use Rattle.wire_orders.specs.declared.rebate_unless_entry.RebateUnlessEntry.{RebateUnlessEntry}
use Rattle.wire_orders.specs.declared.rebate.Rebate.{out-Rebate, fold_out-Rebate}
use Rattle.wire_orders.specs.declared.condition_test.ConditionTest.TheFolds.{fold-roll-Rebate}
use Rattle.wire_orders.specs.declared.condition_test.ConditionTest.TheFolds.{map-Rebate}
use Rattle.wire_orders.proofs.rebate.RebateRecursiveMemberFamilyHeld.push.Goals as goal

pub returns-in-1-RebateUnlessEntry-clause-ok : goal.returns-in-1-RebateUnlessEntry-clause-ok
returns-in-1-RebateUnlessEntry-clause-ok c =
    λ here many kind. on_ok_weaker c.push_message.result (λ pushed. rw (
      c.in-1-RebateUnlessEntry.is-0,
      c.in-1-RebateUnlessEntry.is-1,
      fold_out-Rebate family.ConditionTest-Held family.Family-Tree family.Family-Tree family.Family-Tree family.condition_test-one family.condition-one family.rebate-one family.rebate_unless_entry-one c.args.self.now,
    ) (fold-roll-Rebate family.ConditionTest-Held family.Family-Tree family.Family-Tree family.Family-Tree family.condition_test-one family.condition-one family.rebate-one family.rebate_unless_entry-one _
    ∙ row_pushed family.rebate_unless_entry-value 1
    (family.rebate-one (map-Rebate ConditionTest Condition Rebate RebateUnlessEntry family.ConditionTest-Held family.Family-Tree family.Family-Tree family.Family-Tree family.condition_test-value family.condition-value family.rebate-value family.rebate_unless_entry-value
    (out-Rebate c.args.self.now)))
    _ _ c.in-1-RebateUnlessEntry.message (listed_row _) pushed)) c.push_message.ensures.ok
