use Rattle.std.proofs.Common.{refl, rules, sym, ◌∙◌}
use Rattle.wire_codec.specs.TagView.{tag_number}
use Rattle.wire_fields.specs.Arms.{arm_err, from_last, neither, unlike}
use Rattle.wire_fields.specs.Leaving.{keeps_beside}
use Rattle.wire_fields.specs.Shape.{keeps}
use Rattle.wire_fields.specs.Sums.{first_err, first_takes, second_err}
use Rattle.wire_orders.specs.ConditionFamily.{rebate-known, rebate-leaf, rebate-percent-kind}
use Rattle.wire_orders.specs.ConditionFamily.{rebate-regions-kind}
use Rattle.wire_orders.specs.declared.rebate.Rebate.{fold_out-Rebate}
use Rattle.wire_orders.specs.ConditionFamily as family
use Rattle.wire_orders.proofs.rebate.RebateRecursiveMemberFamilyHeld.merge_leaf.Goals as goal

pub returns-in-2-clause-err : goal.returns-in-2-clause-err
returns-in-2-clause-err g c =
    rw (fold_out-Rebate family.ConditionTest-Held family.Family-Tree family.Family-Tree family.Family-Tree family.condition_test-one family.condition-one family.rebate-one family.rebate_unless_entry-one c.args.self.now)
    (second_err _ (first_takes rebate-leaf.takes) _ _ _ _ _ _
    (first_err _ rebate-leaf.takes _ _ _ _ _ _
    (arm_err rebate-leaf.takes rebate-percent-kind.kind.takes 2 _
    (sym c.field_number.ensures.number ∙ c.in-2.is) _ _
    (λ charge z p h. (z.0.0, h.0.0)) _ _ _
    c.merge.result c.merge.ensures.err)))

pub returns-in-4-clause-err : goal.returns-in-4-clause-err
returns-in-4-clause-err g c =
    rw (fold_out-Rebate family.ConditionTest-Held family.Family-Tree family.Family-Tree family.Family-Tree family.condition_test-one family.condition-one family.rebate-one family.rebate_unless_entry-one c.args.self.now)
    (second_err _ (first_takes rebate-leaf.takes) _ _ _ _ _ _
    (first_err _ rebate-leaf.takes _ _ _ _ _ _
    (arm_err rebate-leaf.takes rebate-regions-kind.takes 4 _
    (sym c.field_number.ensures.number ∙ c.in-4.is) _ _
    (λ charge z p h. ((z.0.1, z.1), h.0)) _ _ _
    c.merge_closed.result c.merge_closed.ensures.err)))

pub returns-in_default-clause-err : goal.returns-in_default-clause-err
returns-in_default-clause-err g c =
    let n = tag_number c.args.tag in
    rw (fold_out-Rebate family.ConditionTest-Held family.Family-Tree family.Family-Tree family.Family-Tree family.condition_test-one family.condition-one family.rebate-one family.rebate_unless_entry-one c.args.self.now)
    (second_err _ (first_takes rebate-leaf.takes) _ _ _ _ _ _
    (first_err _ rebate-leaf.takes _ _ _ _ _ _
    (arm_err rebate-leaf.takes keeps n n refl _ _
    (λ charge z p h. (
      z.1,
      (from_last rebate-known.owns rebate-known.takes keeps_beside n
          (λ p. neither _ _ (unlike n 2 (search rules))
          (unlike n 4 (search rules)))
          _ z charge p h).0,
    ))
    _ _ _ c.keep.result c.keep.ensures.err)))
