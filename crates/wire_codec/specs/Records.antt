-- The records of a value: records of the grammar, where a payload may also be an embedded message.
use Rattle.std.specs.Prelude.{ℕ, List, length}
use Rattle.wire_base.specs.Field.{Payload, Fields}
use Rattle.wire_base.specs.Text.{text_of}

mutual
  -- what a record has behind its tag; a group holds records of values too
  pub data ValuePayload : Type 0 where
    varint : ℕ → ValuePayload
    fixed64 : ℕ → ValuePayload
    fixed32 : ℕ → ValuePayload
    bytes : List ℕ → ValuePayload
    group : Records → ValuePayload
    embedded : Records → ValuePayload

  -- records in order, each by its field number and its payload
  pub data Records : Type 0 where
    none : Records
    field : ℕ → ValuePayload → Records → Records

-- each embedded message as the bytes of its text
abbrev mutual
  pub plain_payload : ValuePayload → Payload
  plain_payload (varint v) = Payload.varint v
  plain_payload (fixed64 v) = Payload.fixed64 v
  plain_payload (fixed32 v) = Payload.fixed32 v
  plain_payload (bytes b) = Payload.bytes b
  plain_payload (group rs) = Payload.group (plain rs)
  plain_payload (embedded rs) = Payload.bytes (text_of (plain rs))

  pub plain : Records → Fields
  plain none = Fields.none
  plain (field n p rest) = Fields.field n (plain_payload p) (plain rest)

-- the shortest text of the records
abbrev pub text : Records → List ℕ
text rs = text_of (plain rs)

-- the length of the text
abbrev pub text_size : Records → ℕ
text_size rs = length (text rs)

-- one list behind another
abbrev pub joined_records : Records → Records → Records
joined_records none more = more
joined_records (field n p rest) more = field n p (joined_records rest more)

-- records of the grammar as records of a value, none of them an embedded message
abbrev mutual
  pub of_payload : Payload → ValuePayload
  of_payload (Payload.varint v) = varint v
  of_payload (Payload.fixed64 v) = fixed64 v
  of_payload (Payload.fixed32 v) = fixed32 v
  of_payload (Payload.bytes b) = bytes b
  of_payload (Payload.group fs) = group (of_fields fs)

  pub of_fields : Fields → Records
  of_fields Fields.none = none
  of_fields (Fields.field n p rest) = field n (of_payload p) (of_fields rest)
