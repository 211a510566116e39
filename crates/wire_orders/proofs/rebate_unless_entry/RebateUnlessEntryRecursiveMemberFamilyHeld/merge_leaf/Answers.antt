use Rattle.std.proofs.Common.{rules, sym, ◌∙◌}
use Rattle.wire_codec.specs.TagView.{tag_number}
use Rattle.wire_fields.specs.Arms.{arm_err, rest_err, unlike}
use Rattle.wire_fields.specs.Shape.{keeps}
use Rattle.wire_fields.specs.Sums.{second_err, second_takes}
use Rattle.wire_orders.specs.ConditionFamily.{rebate_unless_entry-key-kind}
use Rattle.wire_orders.specs.ConditionFamily.{rebate_unless_entry-known, rebate_unless_entry-leaf}
use Rattle.wire_orders.specs.declared.rebate_unless_entry.RebateUnlessEntry.{fold_out-RebateUnlessEntry}
use Rattle.wire_orders.specs.ConditionFamily as family
use Rattle.wire_orders.proofs.rebate_unless_entry.RebateUnlessEntryRecursiveMemberFamilyHeld.merge_leaf.Goals as goal

pub returns-in-1-clause-err : goal.returns-in-1-clause-err
returns-in-1-clause-err g c =
    rw (fold_out-RebateUnlessEntry family.ConditionTest-Held family.Family-Tree family.Family-Tree family.Family-Tree family.condition_test-one family.condition-one family.rebate-one family.rebate_unless_entry-one c.args.self.now)
    (second_err _ (second_takes rebate_unless_entry-leaf.takes) _ _ _ _ _ _
    (second_err _ rebate_unless_entry-leaf.takes _ _ _ _ _ _
    (arm_err rebate_unless_entry-leaf.takes rebate_unless_entry-key-kind.kind.takes 1 _
    (sym c.field_number.ensures.number ∙ c.in-1.is) _ _
    (λ charge z p h. (z.0, h.0)) _ _ _
    c.merge.result c.merge.ensures.err)))

pub returns-in_default-clause-err : goal.returns-in_default-clause-err
returns-in_default-clause-err g c =
    let n = tag_number c.args.tag in
    rw (fold_out-RebateUnlessEntry family.ConditionTest-Held family.Family-Tree family.Family-Tree family.Family-Tree family.condition_test-one family.condition-one family.rebate-one family.rebate_unless_entry-one c.args.self.now)
    (second_err _ (second_takes rebate_unless_entry-leaf.takes) _ _ _ _ _ _
    (second_err _ rebate_unless_entry-leaf.takes _ _ _ _ _ _
    (rest_err rebate_unless_entry-known.owns rebate_unless_entry-known.takes keeps _
    (λ p. unlike n 1 (search rules))
    _ _ _ _ c.keep.result c.keep.ensures.err)))
