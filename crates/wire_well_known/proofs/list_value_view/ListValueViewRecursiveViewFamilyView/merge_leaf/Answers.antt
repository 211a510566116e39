use Rattle.std.proofs.Common.{refl}
use Rattle.wire_fields.specs.Arms.{rest_err}
use Rattle.wire_fields.specs.Shape.{keeps}
use Rattle.wire_fields.specs.Sums.{first_err}
use Rattle.wire_well_known.specs.ListValueFamily.{list_value-known, list_value-leaf}
use Rattle.wire_well_known.specs.declared.list_value_view.ListValueView.{fold_out-ListValueView}
use Rattle.wire_well_known.specs.ListValueFamily as family
use Rattle.wire_well_known.proofs.list_value_view.ListValueViewRecursiveViewFamilyView.merge_leaf.Goals as goal

pub returns-clause-err : goal.returns-clause-err
returns-clause-err c =
    rw (fold_out-ListValueView family.ValueKind-Held family.Family-Tree family.Family-Tree family.Family-Tree family.Family-Tree family.value_kind-view_one family.list_value-view_one family.struct_fields_entry-view_one family.struct_-view_one family.value-view_one c.args.self.now)
    (first_err _ list_value-leaf.takes _ _ _ _ _ _
    (rest_err list_value-known.owns list_value-known.takes keeps _ (λ p. refl)
    _ _ _ _ c.keep_span.result c.keep_span.ensures.err))
