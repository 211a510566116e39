-- The grammar: which texts spell a payload, and which spell records one after another.
use Rattle.std.specs.Prelude.{◌≡◌, ℕ, List, []}
use Rattle.std.specs.Int.{w32, w64}
use Rattle.wire_base.specs.declared.tag.WireType.{WireType}
use Rattle.wire_base.specs.declared.tag.WireType.TheVariants.{EndGroup}
use Rattle.wire_base.specs.Delimited.{IsDelimited}
use Rattle.wire_base.specs.Field.{Payload, varint, fixed64, fixed32, bytes, group, Fields, none, field, type_of}
use Rattle.wire_base.specs.Fixed.{IsFixed}
use Rattle.wire_base.specs.Read.{Reads}
use Rattle.wire_base.specs.Tag.{IsTagSpelling}
use Rattle.wire_base.specs.Varint.{IsSpelling}

abbrev mutual
  -- the text is a payload of a record with field number n
  pub SpellsPayload : ℕ → Payload → List ℕ → Type 0
  SpellsPayload n (varint v) text = IsSpelling v text
  SpellsPayload n (fixed64 v) text = IsFixed w64 v text
  SpellsPayload n (fixed32 v) text = IsFixed w32 v text
  SpellsPayload n (bytes b) text = IsDelimited b text
  -- records, and the end tag of the same field number
  SpellsPayload n (group fs) text =
      (end : List ℕ) × Reads text (Spells fs) end × IsTagSpelling n EndGroup end

  -- the text is these records, one after another: a tag, its payload, and the other records
  pub Spells : Fields → List ℕ → Type 0
  Spells none text = text ≡ []
  Spells (field n p others) text =
      (behind : List ℕ) × (rest : List ℕ) × Reads text (IsTagSpelling n (type_of p)) behind
      × Reads behind (SpellsPayload n p) rest × Spells others rest

-- bytes behind a tag (n, w) are its payload, with this value
pub record IsPayload (n : ℕ) (w : WireType) (p : Payload) (text : List ℕ) : Type 0 where
  pub kind : type_of p ≡ w
  pub spelled : SpellsPayload n p text
