use Rattle.std.proofs.Common.{refl}
use Rattle.wire_fields.specs.Arms.{rest_err}
use Rattle.wire_fields.specs.Shape.{keeps}
use Rattle.wire_fields.specs.Sums.{first_err, first_takes, second_err}
use Rattle.wire_well_known.specs.ListValueFamily.{struct_-known, struct_-leaf}
use Rattle.wire_well_known.specs.declared.struct_.Struct.{fold_out-Struct}
use Rattle.wire_well_known.specs.ListValueFamily as family
use Rattle.wire_well_known.proofs.struct_.StructRecursiveMemberFamilyHeld.merge_leaf.Goals as goal

pub returns-clause-err : goal.returns-clause-err
returns-clause-err g c =
    rw (fold_out-Struct family.ValueKind-Held family.Family-Tree family.Family-Tree family.Family-Tree family.Family-Tree family.value_kind-one family.list_value-one family.struct_-one family.struct_fields_entry-one family.value-one c.args.self.now)
    (second_err _ (first_takes struct_-leaf.takes) _ _ _ _ _ _
    (first_err _ struct_-leaf.takes _ _ _ _ _ _
    (rest_err struct_-known.owns struct_-known.takes keeps _ (λ p. refl)
    _ _ _ _ c.keep.result c.keep.ensures.err)))
