-- What a reader is at, and what one call of it does.
use Rattle.std.specs.Prelude.{◌≡◌, ◌≢◌, ℕ, ◌-◌, List, [], ◌∷◌, length, take, drop, reverse, min, None}
use Rattle.wire_base.specs.declared.tag.WireType.{WireType}
use Rattle.wire_base.specs.declared.tag.WireType.TheVariants.{StartGroup, EndGroup}
use Rattle.wire_base.specs.Charge.{payload_charge}
use Rattle.wire_base.specs.Ending.{GoesOn}
use Rattle.wire_base.specs.Field.{Payload, Fields, type_of, varint, fixed64, fixed32, bytes}
use Rattle.wire_base.specs.Items.{Item, start, end, whole}
use Rattle.wire_base.specs.Limits.{Limits, outer, left_after}
use Rattle.wire_base.specs.Read.{Reads}
use Rattle.wire_base.specs.Spells.{SpellsPayload}
use Rattle.wire_base.specs.Tag.{IsTagSpelling}
use Rattle.wire_base.specs.Taken.{TakesPayload}
use Rattle.wire_read.specs.declared.event.Value.{Value}
use Rattle.wire_read.specs.declared.event.Value.TheVariants as values
use Rattle.wire_read.specs.declared.event.Event.{Event}
use Rattle.wire_read.specs.declared.event.Fault.{Fault}
use Rattle.wire_read.specs.declared.payload.Found.{Found}
use Rattle.wire_read.specs.declared.reader.Reader.{Reader}
use Rattle.wire_read.specs.Budget.{budget, Spends}
use Rattle.wire_read.specs.Opened.{Group, Opens, TakesOpen, numbers, ending_of, in_group, left_open, items_open}
use Rattle.wire_read.specs.PartFault.{PartFault}

-- the bytes that are left, the numbers of the open groups, the innermost first, and what is left of
-- the limits
pub record At : Type 0 where
  pub rest : List ℕ
  pub groups : List ℕ
  pub limits : Limits

-- A reader's levels are at most 100, and no more groups are open than it has levels, whatever its
-- fields are.
abbrev pub levels_in : Reader → ℕ
levels_in r = min r.depth 100

abbrev pub groups_of : Reader → List ℕ
groups_of r = reverse (take (min r.group_count (levels_in r)) r.groups)

abbrev pub limits_in : Reader → Limits
limits_in r = record {
  depth = levels_in r - length (groups_of r);
  counts = record {
    unknown_fields = budget r.unknown_fields;
    element_memory = None;
    unknown_bytes = budget r.unknown_bytes;
  };
}

-- a reader with these bytes before it
abbrev pub facing : Reader → List ℕ → At
facing r rest = record { rest = rest; groups = groups_of r; limits = limits_in r }

-- a reader in these bytes
abbrev pub at : Reader → List ℕ → At
at r all = facing r (drop r.place all)

-- a reader before the first byte
pub record Begins (l : Limits) (r : Reader) : Type 0 where
  pub place : r.place ≡ 0
  pub groups : groups_of r ≡ []
  pub limits : limits_in r ≡ l

-- the item of an event
abbrev pub item : ℕ → Value → Item
item n (values.Varint v) = whole n (varint v)
item n (values.Fixed64 v) = whole n (fixed64 v)
item n (values.Fixed32 v) = whole n (fixed32 v)
item n (values.Bytes b) = whole n (bytes b.now)
item n values.GroupStart = start n
item n values.GroupEnd = end n

-- A payload that is no group stands behind a tag of this wire type, and its bytes are taken of what
-- is left for them.
pub record Stands (left : ℕ) (w : WireType) (old : List ℕ) (found : Found) : Type 0 where
  pub payload : Payload
  pub is : (n : ℕ) → item n found.value ≡ whole n payload
  pub kind : type_of payload ≡ w
  pub read : (n : ℕ) → Reads old (SpellsPayload n payload) found.rest.now
  pub spent : Spends (payload_charge payload).counts.unknown_bytes left found.unknown_bytes

-- one item was taken, and behind is what stands behind its tag
abbrev pub Moves : Item → At → List ℕ → At → Type 0
Moves (start n) s behind t =
    Opens s.limits n s.rest t.rest × (behind ≡ t.rest)
    × (t.groups ≡ n ∷ s.groups) × (t.limits ≡ in_group s.limits)
Moves (end n) s behind t =
    Reads s.rest (IsTagSpelling n EndGroup) t.rest × (behind ≡ t.rest)
    × (s.groups ≡ n ∷ t.groups) × (t.limits ≡ outer s.limits)
Moves (whole n p) s behind t =
    Reads s.rest (IsTagSpelling n (type_of p)) behind
    × TakesPayload (payload_charge p) s.limits n (type_of p) p behind t.rest
    × (type_of p ≢ StartGroup)
    × (t.groups ≡ s.groups) × (t.limits ≡ left_after s.limits (payload_charge p))

-- where in all of the bytes the rest begins
abbrev pub place_of : List ℕ → List ℕ → ℕ
place_of all rest = length all - length rest

-- an event of the item, with its ranges
pub record Gives (event : Event) (all : List ℕ) (s t : At) : Type 0 where
  pub behind : List ℕ
  pub moves : Moves (item event.number event.value) s behind t
  pub start : event.start ≡ place_of all s.rest
  pub payload : event.payload ≡ place_of all behind
  pub end : event.end ≡ place_of all t.rest

-- all is read, and no group is open
pub record IsDone (s : At) : Type 0 where
  pub rest : s.rest ≡ []
  pub groups : s.groups ≡ []

-- the list goes on here, and neither a record nor its end stands here
pub record Stops (fault : Fault) (all : List ℕ) (s : At) : Type 0 where
  pub place : List ℕ
  pub goes_on : GoesOn (ending_of s.groups) s.rest
  pub part : PartFault s.limits (ending_of s.groups) s.rest fault.part place fault.error
  pub record_place : fault.record_place ≡ place_of all s.rest
  pub part_place : fault.part_place ≡ place_of all place

-- the items so far, from all of the bytes, and the records that they are of
pub record IsAt (l : Limits) (all : List ℕ) (items : List Item) (s : At) : Type 0 where
  pub levels : List Group
  pub fields : Fields
  pub taken : TakesOpen l levels fields all s.rest
  pub items_are : items ≡ items_open levels fields
  pub groups : s.groups ≡ numbers levels
  pub limits : s.limits ≡ left_open l levels fields
