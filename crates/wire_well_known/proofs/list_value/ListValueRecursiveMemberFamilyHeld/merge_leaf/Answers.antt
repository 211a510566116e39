use Rattle.std.proofs.Common.{refl}
use Rattle.wire_fields.specs.Arms.{rest_err}
use Rattle.wire_fields.specs.Shape.{keeps}
use Rattle.wire_fields.specs.Sums.{first_err}
use Rattle.wire_well_known.specs.ListValueFamily.{list_value-known, list_value-leaf}
use Rattle.wire_well_known.specs.declared.list_value.ListValue.{fold_out-ListValue}
use Rattle.wire_well_known.specs.ListValueFamily as family
use Rattle.wire_well_known.proofs.list_value.ListValueRecursiveMemberFamilyHeld.merge_leaf.Goals as goal

pub returns-clause-err : goal.returns-clause-err
returns-clause-err g c =
    rw (fold_out-ListValue family.ValueKind-Held family.Family-Tree family.Family-Tree family.Family-Tree family.Family-Tree family.value_kind-one family.list_value-one family.struct_-one family.struct_fields_entry-one family.value-one c.args.self.now)
    (first_err _ list_value-leaf.takes _ _ _ _ _ _
    (rest_err list_value-known.owns list_value-known.takes keeps _ (λ p. refl)
    _ _ _ _ c.keep.result c.keep.ensures.err))
