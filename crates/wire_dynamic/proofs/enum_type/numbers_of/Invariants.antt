use Rattle.std.proofs.Common.{◌≡◌, take}
use Rattle.std.specs.BTreeMap.{get_by_text}
use Rattle.wire_dynamic.specs.Enums.{value_has_name}
use Rattle.wire_dynamic.specs.Table.{IsTableOf}
use Rattle.wire_dynamic.proofs.enum_type.numbers_of.Given as goal

abbrev pub invariant-loop-value : goal.invariant-loop-value
invariant-loop-value l = IsTableOf value_has_name (λ v number. number ≡ v.number)
    (take l.value-index l.values) (get_by_text l.numbers)
