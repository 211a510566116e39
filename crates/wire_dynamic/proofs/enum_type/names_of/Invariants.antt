use Rattle.std.proofs.Common.{◌≡◌, string_bytes, take}
use Rattle.std.specs.BTreeMap.{get}
use Rattle.std.specs.Ordering.{int_cmp}
use Rattle.wire_dynamic.specs.Enums.{value_has_number}
use Rattle.wire_dynamic.specs.Table.{IsTableOf}
use Rattle.wire_dynamic.proofs.enum_type.names_of.Given as goal

abbrev pub invariant-loop-value : goal.invariant-loop-value
invariant-loop-value l = IsTableOf value_has_number
    (λ v name. string_bytes name ≡ string_bytes v.name)
    (take l.value-index l.values) (get int_cmp l.names)
