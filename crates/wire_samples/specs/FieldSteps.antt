-- What a known field makes of the payload of a record.
use Rattle.std.specs.Prelude.{◌≡◌, ℕ, ℤ, List, [], ◌∷◌, ◌++◌, IsUtf8}
use Rattle.wire_codec.specs.Field.{Payload, varint, fixed64, fixed32, bytes, group}
use Rattle.wire_codec.specs.Packed.{Appends}
use Rattle.wire_codec.specs.ValueMap.{ValueMap, int32, sint64}
use Rattle.wire_codec.specs.Varint.{IsSpelling}

-- a number is set
abbrev pub SetsInteger : ValueMap ℤ → Payload → ℤ → Type 0
SetsInteger map (varint x) value = value ≡ map.dec x
SetsInteger map (fixed64 x) value = ⊥
SetsInteger map (fixed32 x) value = ⊥
SetsInteger map (bytes b) value = ⊥
SetsInteger map (group fs) value = ⊥

abbrev pub SetsInt32 : Payload → ℤ → Type 0
SetsInt32 = SetsInteger int32

abbrev pub SetsSint64 : Payload → ℤ → Type 0
SetsSint64 = SetsInteger sint64

-- a text is set, which has to be UTF-8
abbrev pub SetsText : Payload → List ℕ → Type 0
SetsText (varint x) text = ⊥
SetsText (fixed64 x) text = ⊥
SetsText (fixed32 x) text = ⊥
SetsText (bytes b) text = IsUtf8 b × (text ≡ b)
SetsText (group fs) text = ⊥

-- numbers are appended: one, or those of a packed payload, which has to be whole varints
abbrev pub AppendsInt32 : List ℤ → Payload → List ℤ → Type 0
AppendsInt32 before (varint x) after = after ≡ before ++ int32.dec x ∷ []
AppendsInt32 before (fixed64 x) after = ⊥
AppendsInt32 before (fixed32 x) after = ⊥
AppendsInt32 before (bytes b) after = Appends IsSpelling int32 b before after
AppendsInt32 before (group fs) after = ⊥
