use Rattle.std.proofs.Common.{refl, rules, sym, ◌∙◌}
use Rattle.wire_codec.specs.TagView.{tag_number}
use Rattle.wire_fields.specs.Arms.{arm_err, from_last, neither, unlike}
use Rattle.wire_fields.specs.Leaving.{keeps_beside}
use Rattle.wire_fields.specs.Shape.{keeps}
use Rattle.wire_orders.specs.Category.{Category-Value, category-known, category-leaf}
use Rattle.wire_orders.specs.Category.{category-least-kind, category-name-kind, category-one}
use Rattle.wire_orders.specs.Category.{category-regions-kind}
use Rattle.wire_orders.specs.declared.category.Category.{fold_out-Category}
use Rattle.wire_orders.proofs.category.CategoryRecursiveMember.merge_leaf.Goals as goal

pub returns-in-1-clause-err : goal.returns-in-1-clause-err
returns-in-1-clause-err g c =
    rw (fold_out-Category Category-Value category-one c.args.self.now)
    (arm_err category-leaf.takes category-name-kind.kind.takes 1 _
    (sym c.field_number.ensures.number ∙ c.in-1.is) _ _
    (λ charge z p h. (z.0.0.0, h.0.0.0)) _ _ _
    c.merge.result c.merge.ensures.err)

pub returns-in-3-clause-err : goal.returns-in-3-clause-err
returns-in-3-clause-err g c =
    rw (fold_out-Category Category-Value category-one c.args.self.now)
    (arm_err category-leaf.takes category-least-kind.kind.takes 3 _
    (sym c.field_number.ensures.number ∙ c.in-3.is) _ _
    (λ charge z p h. (z.0.0.1, h.0.0.0)) _ _ _
    (c.merge-in-3).result (c.merge-in-3).ensures.err)

pub returns-in-5-clause-err : goal.returns-in-5-clause-err
returns-in-5-clause-err g c =
    rw (fold_out-Category Category-Value category-one c.args.self.now)
    (arm_err category-leaf.takes category-regions-kind.takes 5 _
    (sym c.field_number.ensures.number ∙ c.in-5.is) _ _
    (λ charge z p h. ((z.0.1, z.1), h.0)) _ _ _
    c.merge_closed.result c.merge_closed.ensures.err)

pub returns-in_default-clause-err : goal.returns-in_default-clause-err
returns-in_default-clause-err g c =
    let n = tag_number c.args.tag in
    rw (fold_out-Category Category-Value category-one c.args.self.now)
    (arm_err category-leaf.takes keeps n n refl _ _
    (λ charge z p h. (
      z.1,
      (from_last category-known.owns category-known.takes keeps_beside n
          (λ p. neither _ _ (neither _ _ (unlike n 1 (search rules))
          (unlike n 3 (search rules)))
          (unlike n 5 (search rules)))
          _ z charge p h).0,
    ))
    _ _ _ c.keep.result c.keep.ensures.err)
