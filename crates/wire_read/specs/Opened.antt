-- Records from the front of bytes, where groups at their end are still open.
use Rattle.std.specs.Prelude.{ℕ, ◌<◌, ◌≤◌, List, [], ◌∷◌, ◌++◌, length}
use Rattle.wire_base.specs.declared.tag.WireType.TheVariants.{StartGroup}
use Rattle.wire_base.specs.Charge.{charge}
use Rattle.wire_base.specs.Ending.{Ending, by_input, by_tag}
use Rattle.wire_base.specs.Field.{Payload, varint, fixed64, fixed32, bytes, group, Fields, none, field}
use Rattle.wire_base.specs.Items.{Item, start, end, whole}
use Rattle.wire_base.specs.Limits.{Limits, Fits, one_field, left_after, inner}
use Rattle.wire_base.specs.Read.{Reads}
use Rattle.wire_base.specs.Tag.{IsTagSpelling}
use Rattle.wire_base.specs.Taken.{TakesFields}

-- a group that was begun: the records before it in its list, and its number
pub record Group : Type 0 where
  pub before : Fields
  pub number : ℕ

-- the numbers of open groups, the innermost first
abbrev pub numbers : List Group → List ℕ
numbers [] = []
numbers (g ∷ outside) = g.number ∷ numbers outside

-- how the innermost open list ends
abbrev pub ending_of : List ℕ → Ending
ending_of [] = by_input
ending_of (n ∷ outside) = by_tag n

-- what is left behind the start tag of a group
abbrev pub in_group : Limits → Limits
in_group l = inner (left_after l one_field)

-- what is left behind the records fs of the innermost open list
abbrev pub left_open : Limits → List Group → Fields → Limits
left_open l [] fs = left_after l (charge fs)
left_open l (g ∷ outside) fs = left_after (in_group (left_open l outside g.before)) (charge fs)

-- a start tag for which there is a slot and a level
pub record Opens (l : Limits) (n : ℕ) (old new : List ℕ) : Type 0 where
  pub tag : Reads old (IsTagSpelling n StartGroup) new
  pub slot : Fits one_field l
  pub level : 0 < l.depth

-- At the front of old stand, within the limits, the records before each open group with its start
-- tag, the outermost first, and then the records fs; new is what follows.
abbrev pub TakesOpen : Limits → List Group → Fields → List ℕ → List ℕ → Type 0
TakesOpen l [] fs old new = TakesFields (charge fs) l fs old new
TakesOpen l (g ∷ outside) fs old new =
    (here : List ℕ) × (behind : List ℕ) × TakesOpen l outside g.before old here
    × Opens (left_open l outside g.before) g.number here behind
    × TakesFields (charge fs) (in_group (left_open l outside g.before)) fs behind new

-- Of all fronts that spell records within the limits, open groups counted, the longest: rest is
-- what follows it.
pub record LongestFront (l : Limits) (levels : List Group) (fs : Fields)
    (all rest : List ℕ) : Type 0 where
  pub taken : TakesOpen l levels fs all rest
  pub longest : (outer : List Group) (gs : Fields) (other : List ℕ) → TakesOpen l outer gs all other
      → length rest ≤ length other

-- the items of records, in order: each record that is no group, and each group's start and end
abbrev mutual
  pub payload_items : ℕ → Payload → List Item
  payload_items n (varint v) = whole n (varint v) ∷ []
  payload_items n (fixed64 v) = whole n (fixed64 v) ∷ []
  payload_items n (fixed32 v) = whole n (fixed32 v) ∷ []
  payload_items n (bytes b) = whole n (bytes b) ∷ []
  payload_items n (group fs) = start n ∷ (items_of fs ++ end n ∷ [])

  pub items_of : Fields → List Item
  items_of none = []
  items_of (field n p fs) = payload_items n p ++ items_of fs

-- the items of records where groups are open
abbrev pub items_open : List Group → Fields → List Item
items_open [] fs = items_of fs
items_open (g ∷ outside) fs = items_open outside g.before ++ start g.number ∷ items_of fs
