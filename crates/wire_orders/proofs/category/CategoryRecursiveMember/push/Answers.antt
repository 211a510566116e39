use Rattle.std.proofs.Common.{◌∙◌}
use Rattle.std.proofs.lemmas.Result.{on_ok_weaker}
use Rattle.wire_fields.specs.Nest.{listed_row, row_pushed}
use Rattle.wire_orders.specs.Category.{Category-Value, category-one, category-value}
use Rattle.wire_orders.specs.declared.category.Category.{Category, out-Category, fold_out-Category}
use Rattle.wire_orders.specs.declared.category.Category.TheFolds.{fold-roll-Category, map-Category}
use Rattle.wire_orders.proofs.category.CategoryRecursiveMember.push.Goals as goal

pub returns-in-0-clause-ok : goal.returns-in-0-clause-ok
returns-in-0-clause-ok c =
    λ here many kind. on_ok_weaker c.push_message.result (λ pushed. rw (
      c.in-0.is,
      fold_out-Category Category-Value category-one c.args.self.now,
    ) (fold-roll-Category Category-Value category-one _
    ∙ row_pushed category-value 0
    (category-one (map-Category Category Category-Value category-value (out-Category c.args.self.now)))
    _ _ c.args.message (listed_row _) pushed)) c.push_message.ensures.ok
