use Rattle.std.proofs.Common.{◌≡◌, take}
use Rattle.std.specs.BTreeMap.{get_by_text}
use Rattle.wire_dynamic.specs.Fields.{field_has_name, as_number}
use Rattle.wire_dynamic.specs.Table.{IsTableOf}
use Rattle.wire_dynamic.proofs.message_type.numbers_of.Given as goal

abbrev pub invariant-loop-field : goal.invariant-loop-field
invariant-loop-field l = IsTableOf field_has_name (λ d number. number ≡ as_number d.number)
    (take l.field-index l.fields) (get_by_text l.numbers)
