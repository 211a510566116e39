-- Extensions as they are declared.
use Rattle.std.specs.Prelude.{ℕ, Bool, ◌&&◌, nat_eq, false, string_bytes}
use Rattle.std.specs.declared.cmp.Ordering.{Ordering}
use Rattle.std.specs.Ordering.{nat_cmp, ordering_then}
use Rattle.std.specs.BTreeMap.{get_by_text}
use Rattle.std.specs.Option.{option_map_or}
use Rattle.wire_dynamic.specs.declared.declared.Declared.{Declared}
use Rattle.wire_dynamic.specs.declared.declared.DeclaredExtension.{DeclaredExtension}
use Rattle.wire_dynamic.specs.declared.field.Field.{Field}
use Rattle.wire_dynamic.specs.declared.places.Places.{Places}
use Rattle.wire_dynamic.specs.Fields.{field_features, as_number, IsField}

-- the order of places of message types and numbers of fields
abbrev pub place_cmp : ℕ × ℕ → ℕ × ℕ → Ordering
place_cmp x y = ordering_then (nat_cmp x.0 y.0) (nat_cmp x.1 y.1)

-- whether an extension is of the message type at this place, and has this number
abbrev pub extends : Places → ℕ × ℕ → DeclaredExtension → Bool
extends places at e =
    option_map_or (nat_eq at.0)
    (get_by_text places.messages (string_bytes e.descriptor.extendee)) false
    && nat_eq (as_number e.descriptor.number) at.1

abbrev pub IsExtension : Declared → Places → DeclaredExtension → Field → Type 0
IsExtension declared places e f =
    IsField declared places (field_features e.features e.descriptor.options) (string_bytes e.name)
    e.descriptor f
