-- The records of bytes that no field of a message owns, one after another.
use Rattle.std.specs.Prelude.{◌≡◌, ℕ, false, List, ◌++◌}
use Rattle.wire_codec.specs.Field.{Payload, Fields, none, field}
use Rattle.wire_codec.specs.Spells.{Spells}
use Rattle.wire_fields.specs.Shape.{Owns}
use Rattle.wire_structs.specs.Unknown.{SpellsShallow, unowned}

-- The bytes old are records that are owned, then one that is not, of which all the bytes are
-- `record_bytes`, and then new.
pub record GivesUnknown (owns : Owns) (old record_bytes new : List ℕ) : Type 0 where
  pub passed : List ℕ
  pub before : Fields
  pub number : ℕ
  pub payload : Payload
  pub parts : old ≡ passed ++ record_bytes ++ new
  pub spelled_before : Spells before passed
  pub owned : unowned owns before ≡ none
  pub spelled : Spells (field number payload none) record_bytes
  pub is_unowned : owns number payload ≡ false

-- all of the bytes are records that are owned
abbrev pub HasNoUnknown : Owns → List ℕ → Type 0
HasNoUnknown owns bytes = (fs : Fields) × SpellsShallow bytes fs × (unowned owns fs ≡ none)
