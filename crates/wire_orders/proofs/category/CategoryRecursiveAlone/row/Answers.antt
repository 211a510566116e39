use Rattle.std.proofs.Common.{◌∙◌, ap, map, sym}
use Rattle.wire_fields.specs.Nest.{listed_row}
use Rattle.wire_orders.specs.Category.{Category-Value, category-one, category-value}
use Rattle.wire_orders.specs.declared.category.Category.{fold_out-Category}
use Rattle.wire_orders.proofs.category.CategoryRecursiveAlone.row.Goals as goal

pub returns-in-0 : goal.returns-in-0
returns-in-0 c =
    rw (c.in-0.is, fold_out-Category Category-Value category-one c.args.self.now)
    (ap (map category-value) c.deref.ensures.value ∙ sym (listed_row _))
