-- Unknown fields of which some were kept.
use Rattle.std.specs.Prelude.{◌≡◌, List}
use Rattle.wire_base.specs.declared.unknown_fields.UnknownField.{UnknownField}
use Rattle.wire_base.specs.Field.{Fields}
use Rattle.wire_base.specs.UnknownFields.{fields_of}

-- new are the records that Keeps takes from those of old
abbrev pub KeptBy : (List UnknownField → List UnknownField → Type 0) → Fields → Fields → Type 0
KeptBy Keeps old new = (all : List UnknownField) × (kept : List UnknownField)
    × (fields_of all ≡ old) × (fields_of kept ≡ new) × Keeps all kept
