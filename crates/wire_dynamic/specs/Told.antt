-- What a walk is at, and what one call of it tells.
use Rattle.std.specs.Prelude.{◌≡◌, ℕ}
use Rattle.wire_read.specs.declared.reader.Reader.{Reader}
use Rattle.wire_dynamic.specs.declared.schema.Schema.{Schema}
use Rattle.wire_dynamic.specs.declared.walk.Walk.{Walk}

-- the schema, the place of the type of all the records, and what reads them
abbrev pub schema_of : Walk → Schema
schema_of w = w.schema.now

abbrev pub root_of : Walk → ℕ
root_of w = w.root

abbrev pub reader_of : Walk → Reader
reader_of w = w.reader

-- the schema and the type are the same
pub record IsSameWalk (old new : Walk) : Type 0 where
  pub schema : schema_of new ≡ schema_of old
  pub root : root_of new ≡ root_of old
