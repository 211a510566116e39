-- How a list of records ends.
use Rattle.std.specs.Prelude.{◌≡◌, ◌≢◌, ℕ, ◌<◌, ◌≤◌, List, length}
use Rattle.wire_base.specs.declared.tag.WireType.{WireType}
use Rattle.wire_base.specs.declared.tag.WireType.TheVariants as types
use Rattle.wire_base.specs.Read.{Reads}
use Rattle.wire_base.specs.Tag.{IsTagSpelling}

-- where at most so many bytes are left, or by the end tag of a group's field number
pub data Ending : Type 0 where
  by_limit : ℕ → Ending
  by_tag : ℕ → Ending

-- at the end of the input, where no byte is left
abbrev pub by_input : Ending
by_input = by_limit 0

-- a list may go on at these bytes
abbrev pub GoesOn : Ending → List ℕ → Type 0
GoesOn (by_limit most) rest = most < length rest
GoesOn (by_tag n) rest = Unit {0}

-- a list ends at these bytes, and new is what follows its end
abbrev pub Ends : Ending → List ℕ → List ℕ → Type 0
Ends (by_limit most) rest new = (length rest ≤ most) × (new ≡ rest)
Ends (by_tag n) rest new = Reads rest (IsTagSpelling n types.EndGroup) new

-- a tag of this wire type is read as that of a record, and not as the end of a group
abbrev pub IsRecordTag : Ending → WireType → Type 0
IsRecordTag (by_limit most) w = Unit {0}
IsRecordTag (by_tag n) w = w ≢ types.EndGroup
