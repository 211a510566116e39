-- Names of the numbers of enums.
use Rattle.std.proofs.Common.{◌≡◌, ℕ, ℤ, List, Option, Some, option_map, option_and_then, sym, ap, ◌∙◌, string_bytes}
use Rattle.std.specs.BTreeMap.{get}
use Rattle.std.specs.Ordering.{int_cmp}
use Rattle.wire_dynamic.specs.declared.enum_type.EnumType.{EnumType}
use Rattle.wire_dynamic.specs.declared.schema.Schema.{Schema}
use Rattle.wire_dynamic.specs.Schemas.{enum_at}
use Rattle.wire_dump.specs.Numbers.{value_name}

-- the name that an enum answers
pub named : (s : Schema) (place : ℕ) (v : ℤ) (e : EnumType) (answer : Option (List ℕ))
    → enum_at s place ≡ Some e → answer ≡ option_map string_bytes (get int_cmp e.names v)
    → value_name s place v ≡ answer
named s place v e answer here is =
    ap (λ (x : Option EnumType). option_and_then
    (λ (y : EnumType). option_map string_bytes (get int_cmp y.names v)) x) here ∙ sym is
