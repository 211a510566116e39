-- Paths to fields.
use Rattle.std.specs.Prelude.{ℕ, ℤ, Bool, List}

-- the key of an entry of a map
pub data Key : Type 0 where
  int_key : ℤ → Key
  uint_key : ℕ → Key
  bool_key : Bool → Key
  text_key : List ℕ → Key

-- the name that a field has in its schema, the index of an element of a list, or the key of an entry
-- of a map
pub data PathPart : Type 0 where
  field : List ℕ → PathPart
  index : ℕ → PathPart
  key : Key → PathPart
