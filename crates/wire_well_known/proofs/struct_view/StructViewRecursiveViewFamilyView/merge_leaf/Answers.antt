use Rattle.std.proofs.Common.{refl}
use Rattle.wire_fields.specs.Arms.{rest_err}
use Rattle.wire_fields.specs.Shape.{keeps}
use Rattle.wire_fields.specs.Sums.{first_err, first_takes, second_err}
use Rattle.wire_well_known.specs.ListValueFamily.{struct_-known, struct_-leaf}
use Rattle.wire_well_known.specs.declared.struct_view.StructView.{fold_out-StructView}
use Rattle.wire_well_known.specs.ListValueFamily as family
use Rattle.wire_well_known.proofs.struct_view.StructViewRecursiveViewFamilyView.merge_leaf.Goals as goal

pub returns-clause-err : goal.returns-clause-err
returns-clause-err c =
    rw (fold_out-StructView family.ValueKind-Held family.Family-Tree family.Family-Tree family.Family-Tree family.Family-Tree family.value_kind-view_one family.list_value-view_one family.struct_fields_entry-view_one family.struct_-view_one family.value-view_one c.args.self.now)
    (second_err _ (first_takes struct_-leaf.takes) _ _ _ _ _ _
    (first_err _ struct_-leaf.takes _ _ _ _ _ _
    (rest_err struct_-known.owns struct_-known.takes keeps _ (λ p. refl)
    _ _ _ _ c.keep_span.result c.keep_span.ensures.err)))
