use Rattle.wire_orders.proofs.condition_family.FamilyHeldRecursiveHeld.merge_leaf.Goals as goal

pub returns-in-Condition-clause-err : goal.returns-in-Condition-clause-err
returns-in-Condition-clause-err g c = rw c.in-Condition.is c.merge_leaf.ensures.err

pub returns-in-Rebate-clause-err : goal.returns-in-Rebate-clause-err
returns-in-Rebate-clause-err g c = rw c.in-Rebate.is (c.merge_leaf-in-Rebate).ensures.err

pub returns-in-RebateUnlessEntry-clause-err : goal.returns-in-RebateUnlessEntry-clause-err
returns-in-RebateUnlessEntry-clause-err g c = rw c.in-RebateUnlessEntry.is (c.merge_leaf-in-RebateUnlessEntry).ensures.err
