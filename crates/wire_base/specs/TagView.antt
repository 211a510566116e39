-- What a contract sees of a `Tag`: its field number, which is in range, and its wire type.
use Rattle.std.specs.Prelude.{ℕ}
use Rattle.wire_base.specs.declared.tag.Tag.{Tag}
use Rattle.wire_base.specs.declared.tag.WireType.{WireType}

abbrev pub tag_number : Tag → ℕ
tag_number tag = tag.field_number

abbrev pub tag_type : Tag → WireType
tag_type tag = tag.wire_type
