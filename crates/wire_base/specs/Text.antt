-- The shortest text of records.
use Rattle.std.specs.Prelude.{ℕ, List, [], ◌++◌, length}
use Rattle.std.specs.Int.{w32, w64, to_le_bytes}
use Rattle.wire_base.specs.declared.tag.WireType.TheVariants.{EndGroup}
use Rattle.wire_base.specs.Delimited.{delimited_text}
use Rattle.wire_base.specs.Field.{Payload, varint, fixed64, fixed32, bytes, group, Fields, none, field, type_of}
use Rattle.wire_base.specs.Tag.{tag_text}
use Rattle.wire_base.specs.Varint.{shortest_varint}

-- the grammar with the shortest varint everywhere
abbrev mutual
  pub payload_text : ℕ → Payload → List ℕ
  payload_text n (varint v) = shortest_varint v
  payload_text n (fixed64 v) = to_le_bytes w64 v
  payload_text n (fixed32 v) = to_le_bytes w32 v
  payload_text n (bytes b) = delimited_text b
  payload_text n (group fs) = text_of fs ++ tag_text n EndGroup

  pub text_of : Fields → List ℕ
  text_of none = []
  text_of (field n p rest) = tag_text n (type_of p) ++ (payload_text n p ++ text_of rest)

-- the shortest text of one record
abbrev pub record_text : ℕ → Payload → List ℕ
record_text n p = tag_text n (type_of p) ++ payload_text n p

-- the length of the text
abbrev pub size : Fields → ℕ
size fs = length (text_of fs)
