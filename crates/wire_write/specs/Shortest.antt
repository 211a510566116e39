-- The shortest encoding of records, item by item.
use Rattle.std.specs.Prelude.{◌≡◌, ℕ, ◌<◌, List, length}
use Rattle.wire_base.specs.declared.tag.WireType.TheVariants.{StartGroup, EndGroup}
use Rattle.wire_base.specs.Charge.{charge}
use Rattle.wire_base.specs.Field.{Fields}
use Rattle.wire_base.specs.Items.{Item, start, end, whole}
use Rattle.wire_base.specs.Limits.{Limits, Fits}
use Rattle.wire_base.specs.Spells.{Spells}
use Rattle.wire_base.specs.Tag.{tag_text}
use Rattle.wire_base.specs.Text.{record_text, size}
use Rattle.wire_read.specs.declared.event.Fault.{Fault}
use Rattle.wire_read.specs.Faults.{IsFault}
use Rattle.wire_write.specs.declared.shortest.ShortestError.{ShortestError}
use Rattle.wire_write.specs.declared.shortest.ShortestError.TheVariants as errors

abbrev pub item_text : Item → List ℕ
item_text (start n) = tag_text n StartGroup
item_text (end n) = tag_text n EndGroup
item_text (whole n p) = record_text n p

-- all of the bytes spell these records, within the limits
pub record SpellsIn (l : Limits) (fs : Fields) (all : List ℕ) : Type 0 where
  pub spelled : Spells fs all
  pub fits : Fits (charge fs) l

-- why there is no shortest encoding in the room
pub data ShortestFault : Limits → List ℕ → List ℕ → ShortestError → Type 0 where
  fault : {l : Limits} {all room : List ℕ} (f : Fault)
      → IsFault l all f → ShortestFault l all room (errors.Fault f)
  no_room : {l : Limits} {all room : List ℕ} (fs : Fields) (len : ℕ) → SpellsIn l fs all
      → len ≡ size fs → length room < len → ShortestFault l all room (errors.NoRoom len)
