-- Records as data: a field number with one of five kinds of payload.
use Rattle.std.specs.Prelude.{ℕ, suc, List}
use Rattle.wire_base.specs.declared.tag.WireType.{WireType}
use Rattle.wire_base.specs.declared.tag.WireType.TheVariants.{Varint, Fixed64, LengthDelimited, StartGroup, Fixed32}

mutual
  -- what a record has behind its tag; a group holds records
  pub data Payload : Type 0 where
    varint : ℕ → Payload
    fixed64 : ℕ → Payload
    fixed32 : ℕ → Payload
    bytes : List ℕ → Payload
    group : Fields → Payload

  -- records in order, each by its field number and its payload
  pub data Fields : Type 0 where
    none : Fields
    field : ℕ → Payload → Fields → Fields

-- the wire type in a record's tag
abbrev pub type_of : Payload → WireType
type_of (varint v) = Varint
type_of (fixed64 v) = Fixed64
type_of (fixed32 v) = Fixed32
type_of (bytes b) = LengthDelimited
type_of (group fs) = StartGroup

-- one list behind another
abbrev pub joined : Fields → Fields → Fields
joined none more = more
joined (field n p rest) more = field n p (joined rest more)

-- one record more at the end
abbrev pub push : Fields → ℕ → Payload → Fields
push fs n p = joined fs (field n p none)

-- how many records a list has, those nested in groups left out
abbrev pub count_top : Fields → ℕ
count_top none = 0
count_top (field n p rest) = suc (count_top rest)
