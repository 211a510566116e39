-- Items as they are taken from bytes that are shortened in place.
use Rattle.std.specs.Prelude.{◌≡◌, ℕ, ◌-◌, ◌≤◌, List, ◌++◌, length, take, drop}
use Rattle.std.specs.Int.{w32, w64, to_le_bytes}
use Rattle.wire_base.specs.declared.tag.WireType.TheVariants as types
use Rattle.wire_base.specs.Field.{varint, fixed64, fixed32, bytes}
use Rattle.wire_base.specs.Items.{Item, start, end, whole}
use Rattle.wire_base.specs.Tag.{tag_text}
use Rattle.wire_base.specs.Varint.{shortest_varint}
use Rattle.wire_read.specs.declared.event.Value.{Value}
use Rattle.wire_read.specs.declared.event.Value.TheVariants as values
use Rattle.wire_read.specs.Reading.{At, Moves, place_of}
use Rattle.wire_min.specs.declared.shorten.Kind.{Kind}
use Rattle.wire_min.specs.declared.shorten.Kind.TheVariants as kinds
use Rattle.wire_min.specs.declared.shorten.Taken.{Taken}

-- what was read, a payload by its length
abbrev pub read_kind : Value → Kind
read_kind (values.Varint v) = kinds.Varint v
read_kind (values.Fixed64 v) = kinds.Fixed64 v
read_kind (values.Fixed32 v) = kinds.Fixed32 v
read_kind (values.Bytes b) = kinds.Bytes (length b.now)
read_kind values.GroupStart = kinds.GroupStart
read_kind values.GroupEnd = kinds.GroupEnd

-- how many bytes the payload has, where it is one behind its length
abbrev pub payload_len : Kind → ℕ
payload_len (kinds.Bytes count) = count
payload_len _ = 0

-- the item of a number and a kind, with this payload where it has one
abbrev pub item_with : ℕ → Kind → List ℕ → Item
item_with n (kinds.Varint v) payload = whole n (varint v)
item_with n (kinds.Fixed64 v) payload = whole n (fixed64 v)
item_with n (kinds.Fixed32 v) payload = whole n (fixed32 v)
item_with n (kinds.Bytes count) payload = whole n (bytes payload)
item_with n kinds.GroupStart payload = start n
item_with n kinds.GroupEnd payload = end n

-- the item that was taken from these bytes: its payload is the last before its end
abbrev pub item_of : Taken → List ℕ → Item
item_of t all =
    let count = payload_len t.kind in
    item_with t.number t.kind (take count (drop (t.end - count) all))

-- the shortest text of an item, its payload left out
abbrev pub head_text : ℕ → Kind → List ℕ
head_text n (kinds.Varint v) = tag_text n types.Varint ++ shortest_varint v
head_text n (kinds.Fixed64 v) = tag_text n types.Fixed64 ++ to_le_bytes w64 v
head_text n (kinds.Fixed32 v) = tag_text n types.Fixed32 ++ to_le_bytes w32 v
head_text n (kinds.Bytes count) = tag_text n types.LengthDelimited ++ shortest_varint count
head_text n kinds.GroupStart = tag_text n types.StartGroup
head_text n kinds.GroupEnd = tag_text n types.EndGroup

-- the item was taken from the front of what was left of all
pub record Takes (item : Taken) (all : List ℕ) (s t : At) : Type 0 where
  pub behind : List ℕ
  pub moves : Moves (item_of item all) s behind t
  pub payload : payload_len item.kind ≤ item.end
  pub end : item.end ≡ place_of all t.rest
