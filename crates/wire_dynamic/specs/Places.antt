-- Where types stand, by their names.
use Rattle.std.specs.Prelude.{◌≡◌, ℕ, Bool, List, Some, slice_get, string_bytes}
use Rattle.std.specs.BTreeMap.{get_by_text}
use Rattle.std.specs.Str.{bytes_eq}
use Rattle.wire_dynamic.specs.declared.declared.Declared.{Declared}
use Rattle.wire_dynamic.specs.declared.declared.DeclaredEnum.{DeclaredEnum}
use Rattle.wire_dynamic.specs.declared.declared.DeclaredMessage.{DeclaredMessage}
use Rattle.wire_dynamic.specs.declared.places.Places.{Places}
use Rattle.wire_dynamic.specs.Table.{IsTableOf}

abbrev pub message_has_name : List ℕ → DeclaredMessage → Bool
message_has_name name m = bytes_eq name (string_bytes m.name)

abbrev pub enum_has_name : List ℕ → DeclaredEnum → Bool
enum_has_name name e = bytes_eq name (string_bytes e.name)

-- at each name stands the place of what is declared with it
pub record ArePlaces (declared : Declared) (places : Places) : Type 0 where
  pub messages : IsTableOf message_has_name (λ m i. slice_get declared.messages.items i ≡ Some m)
      declared.messages.items (get_by_text places.messages)
  pub enums : IsTableOf enum_has_name (λ e i. slice_get declared.enums.items i ≡ Some e)
      declared.enums.items (get_by_text places.enums)
