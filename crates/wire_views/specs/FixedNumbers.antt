-- Numbers of four or eight bytes each that stay where they stand.
use Rattle.std.specs.Int.{Width, byte_len, from_le_bytes, w32, w64}
use Rattle.std.specs.Prelude.{ℕ, zero, suc, ◌/◌, List, [], ◌∷◌, length, take, drop, map}
use Rattle.wire_codec.specs.ValueMap.{ValueMap}
use Rattle.wire_fields.specs.declared.form.Form.{Form}
use Rattle.wire_fields.specs.declared.form.Form.TheVariants.{Varint, Fixed64, Fixed32}

-- so many numbers of this width from the front of the bytes
abbrev pub numbers_of : Width → ℕ → List ℕ → List ℕ
numbers_of width zero bytes = []
numbers_of width (suc n) bytes =
    from_le_bytes width (take (byte_len width) bytes)
    ∷ numbers_of width n (drop (byte_len width) bytes)

-- the whole numbers of the bytes; where a number has no width of its own, none
abbrev pub numbers_in : Form → List ℕ → List ℕ
numbers_in Varint bytes = []
numbers_in Fixed64 bytes = numbers_of w64 (length bytes / 8) bytes
numbers_in Fixed32 bytes = numbers_of w32 (length bytes / 4) bytes

-- their values
abbrev pub values_in : {T : Type 0} → Form → ValueMap T → List ℕ → List T
values_in form values bytes = map values.dec (numbers_in form bytes)
