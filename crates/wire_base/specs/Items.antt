-- A span of records as a flat walk sees it: items in a row, of which none stands inside another.
use Rattle.std.specs.Prelude.{◌≡◌, ◌≢◌, ℕ, suc, ◌+◌, ◌-◌, ◌^◌, List, [], ◌∷◌, max, min}
use Rattle.wire_base.specs.declared.error.DecodeError.{DecodeError}
use Rattle.wire_base.specs.declared.error.DecodeError.TheVariants.{UnknownFieldLimitExceeded}
use Rattle.wire_base.specs.declared.tag.WireType.{WireType}
use Rattle.wire_base.specs.declared.tag.WireType.TheVariants.{StartGroup, EndGroup}
use Rattle.wire_base.specs.Charge.{payload_charge}
use Rattle.wire_base.specs.Fault.{PayloadFault}
use Rattle.wire_base.specs.Field.{Payload, none, field, type_of}
use Rattle.wire_base.specs.Limits.{Limits, Charge, HaveRoom, Fits, one_field, left_after}
use Rattle.wire_base.specs.Read.{Reads}
use Rattle.wire_base.specs.Spells.{Spells}
use Rattle.wire_base.specs.Tag.{IsTagSpelling, TagFault}

-- the start tag of a group, an end tag, or a record that is no group
pub data Item : Type 0 where
  start : ℕ → Item
  end : ℕ → Item
  whole : ℕ → Payload → Item

-- the text is this item
abbrev pub IsItem : Item → List ℕ → Type 0
IsItem (start n) text = IsTagSpelling n StartGroup text
IsItem (end n) text = IsTagSpelling n EndGroup text
IsItem (whole n p) text = (type_of p ≢ StartGroup) × Spells (field n p none) text

-- the text is these items, one after another
abbrev pub SpellsItems : List Item → List ℕ → Type 0
SpellsItems [] text = text ≡ []
SpellsItems (i ∷ items) text = (rest : List ℕ) × Reads text (IsItem i) rest × SpellsItems items rest

-- how many items are no end tag
abbrev pub slots : List Item → ℕ
slots [] = 0
slots (start n ∷ items) = suc (slots items)
slots (end n ∷ items) = slots items
slots (whole n p ∷ items) = suc (slots items)

-- how many bytes the length-delimited payloads of the items are
abbrev pub item_bytes : List Item → ℕ
item_bytes [] = 0
item_bytes (start n ∷ items) = item_bytes items
item_bytes (end n ∷ items) = item_bytes items
item_bytes (whole n p ∷ items) = (payload_charge p).counts.unknown_bytes + item_bytes items

-- the level behind an item: one up at a start tag and one down at an end tag, from 0 to 2 ^ 32 - 1
abbrev pub level_after : Item → ℕ → ℕ
level_after (start n) level = min (level + 1) (2 ^ 32 - 1)
level_after (end n) level = level - 1
level_after (whole n p) level = level

-- the greatest level, where the items begin at this one
abbrev pub greatest_level : ℕ → List Item → ℕ
greatest_level level [] = level
greatest_level level (i ∷ items) = max level (greatest_level (level_after i level) items)

-- what a flat walk charges for items. End tags are not compared with start tags, so the depth is
-- that of the records only where the items spell records.
abbrev pub flat_charge : List Item → Charge
flat_charge items = record {
  depth = greatest_level 0 items;
  counts = record {
    unknown_fields = slots items;
    element_memory = 0;
    unknown_bytes = item_bytes items;
  };
}

-- the items stand at the front of old, there is room for what they count, and new is what follows
pub record TakesItems (items : List Item) (l : Limits) (old new : List ℕ) : Type 0 where
  pub read : Reads old (SpellsItems items) new
  pub room : HaveRoom l.counts (flat_charge items).counts

-- some bytes are left, and no item stands there for which there is room
pub data ItemFault : Limits → List ℕ → DecodeError → Type 0 where
  no_tag : {l : Limits} {bytes : List ℕ} {e : DecodeError}
      → bytes ≢ [] → TagFault bytes e → ItemFault l bytes e
  no_slot : {l : Limits} {bytes : List ℕ} (n : ℕ) (w : WireType) (behind : List ℕ)
      → Reads bytes (IsTagSpelling n w) behind → w ≢ EndGroup → ¬ Fits one_field l
      → ItemFault l bytes UnknownFieldLimitExceeded
  bad_payload : {l : Limits} {bytes : List ℕ} {e : DecodeError}
      (n : ℕ) (w : WireType) (behind : List ℕ)
      → Reads bytes (IsTagSpelling n w) behind → w ≢ EndGroup → w ≢ StartGroup
      → PayloadFault l n w behind e → ItemFault l bytes e

-- items for which there is room, and then a fault
pub data SpanFault : Limits → List ℕ → DecodeError → Type 0 where
  past : {l : Limits} {span : List ℕ} {e : DecodeError} (items : List Item) (rest : List ℕ)
      → TakesItems items l span rest → ItemFault (left_after l (flat_charge items)) rest e
      → SpanFault l span e
