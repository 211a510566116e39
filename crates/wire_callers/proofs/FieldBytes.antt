-- The bytes of one field's payloads, event by event.
use Rattle.std.proofs.Common.{◌≡◌, ℕ, ◌+◌, ◌≤◌, Bool, true, false, List, [], ◌∷◌, ◌++◌, length, nat_eq, if◌then◌else◌, refl, sym, ap, ◌∙◌, arith, length-append}
use Rattle.wire_base.specs.Charge.{charge}
use Rattle.wire_base.specs.Field.{Payload, varint, fixed64, fixed32, bytes, group, Fields, none, field}
use Rattle.wire_base.specs.Items.{Item, start, end, whole}
use Rattle.wire_base.specs.Limits.{Limits, Fits}
use Rattle.wire_base.specs.Spells.{Spells}
use Rattle.wire_read.specs.declared.event.Event.{Event}
use Rattle.wire_read.specs.declared.event.Value.{Value}
use Rattle.wire_read.specs.declared.event.Value.TheVariants as values
use Rattle.wire_read.specs.declared.reader.Reader.{Reader}
use Rattle.wire_read.specs.Laws.{ReaderGoesOn, ReaderIsDone, ReaderMovesOn}
use Rattle.wire_read.specs.Opened.{items_of, payload_items}
use Rattle.wire_callers.specs.PayloadBytes.{bytes_of_payload, bytes_of_field, payload_length}
use Rattle.wire_read.specs.Reading.{At, Gives, IsAt, IsDone, Moves, at, item}

abbrev pub item_bytes : ℕ → Item → ℕ
item_bytes n (start m) = 0
item_bytes n (end m) = 0
item_bytes n (whole m (varint v)) = 0
item_bytes n (whole m (fixed64 v)) = 0
item_bytes n (whole m (fixed32 v)) = 0
item_bytes n (whole m (group fs)) = 0
item_bytes n (whole m (bytes b)) = if nat_eq m n then length b else 0

abbrev pub total : ℕ → List Item → ℕ
total n [] = 0
total n (i ∷ items) = item_bytes n i + total n items

total-append : (n : ℕ) (items more : List Item)
    → total n (items ++ more) ≡ total n items + total n more
total-append n [] more = omega arith
total-append n (i ∷ items) more = omega (arith, total-append n items more)

mutual
  total-payload : (n m : ℕ) (p : Payload) → total n (payload_items m p) ≡ bytes_of_payload n m p
  total-payload n m (varint v) = refl
  total-payload n m (fixed64 v) = refl
  total-payload n m (fixed32 v) = refl
  total-payload n m (bytes b) = omega arith
  total-payload n m (group fs) =
      omega (arith, total-append n (items_of fs) (end m ∷ []), total-fields n fs)

  total-fields : (n : ℕ) (fs : Fields) → total n (items_of fs) ≡ bytes_of_field n fs
  total-fields n none = refl
  total-fields n (field m p fs) =
      omega (
        arith,
        total-append n (payload_items m p) (items_of fs),
        total-payload n m p,
        total-fields n fs,
      )

-- ---- an event's item

chosen : (b : Bool) (k : ℕ) (v : Value) → payload_length true v ≡ k
    → payload_length false v ≡ 0 → (if b then k else 0) ≡ payload_length b v
chosen true k v h other = sym h
chosen false k v h other = sym other

nothing : (b : Bool) (v : Value) → payload_length true v ≡ 0 → payload_length false v ≡ 0
    → 0 ≡ payload_length b v
nothing true v h other = sym h
nothing false v h other = sym other

item_is : (m n : ℕ) (v : Value) → item_bytes n (item m v) ≡ payload_length (nat_eq m n) v
item_is m n (values.Varint x) = nothing (nat_eq m n) (values.Varint x) refl refl
item_is m n (values.Fixed64 x) = nothing (nat_eq m n) (values.Fixed64 x) refl refl
item_is m n (values.Fixed32 x) = nothing (nat_eq m n) (values.Fixed32 x) refl refl
item_is m n (values.Bytes b) = chosen (nat_eq m n) (length b.now) (values.Bytes b) refl refl
item_is m n values.GroupStart = nothing (nat_eq m n) values.GroupStart refl refl
item_is m n values.GroupEnd = nothing (nat_eq m n) values.GroupEnd refl refl

at_most : (b : Bool) (k : ℕ) → (if b then k else 0) ≤ k
at_most true k = omega arith
at_most false k = omega arith

-- a payload's bytes are among those that its item takes
room_for : ReaderMovesOn → (n : ℕ) (i : Item) (s t : At) (behind : List ℕ) → Moves i s behind t
    → item_bytes n i + length t.rest ≤ length s.rest
room_for moves n (whole m (bytes b)) s t behind (tag, taken, flat, groups, left) =
    let text = taken.read.spelled.spelled in
    omega (
      arith,
      at_most (nat_eq m n) (length b),
      ap length tag.parts ∙ length-append tag.text behind,
      ap length taken.read.parts ∙ length-append taken.read.text t.rest,
      ap length text.parts ∙ length-append text.text b,
    )
room_for moves n (start m) s t behind h = omega (arith, moves (start m) s t behind h)
room_for moves n (end m) s t behind h = omega (arith, moves (end m) s t behind h)
room_for moves n (whole m (varint v)) s t behind h =
    omega (arith, moves (whole m (varint v)) s t behind h)
room_for moves n (whole m (fixed64 v)) s t behind h =
    omega (arith, moves (whole m (fixed64 v)) s t behind h)
room_for moves n (whole m (fixed32 v)) s t behind h =
    omega (arith, moves (whole m (fixed32 v)) s t behind h)
room_for moves n (whole m (group fs)) s t behind h =
    omega (arith, moves (whole m (group fs)) s t behind h)

-- ---- the loop

pub record Sofar (l : Limits) (all : List ℕ) (n : ℕ) (r : Reader) (sum : ℕ) : Type 0 where
  pub items : List Item
  pub place : IsAt l all items (at r all)
  pub is : sum ≡ total n items
  pub room : sum + length (at r all).rest ≤ length all

fits_more : ReaderMovesOn → (l : Limits) (all : List ℕ) (n : ℕ) (r t : Reader) (sum : ℕ) (e : Event)
    → Sofar l all n r sum → Gives e all (at r all) (at t all)
    → sum + payload_length (nat_eq e.number n) e.value + length (at t all).rest ≤ length all
fits_more moves l all n r t sum e h given =
    omega (
      arith,
      h.room,
      item_is e.number n e.value,
      room_for moves n (item e.number e.value) (at r all) (at t all) given.behind given.moves,
    )

pub one_more : ReaderGoesOn → ReaderMovesOn → (l : Limits) (all : List ℕ) (n : ℕ)
    (r t : Reader) (sum next : ℕ) (e : Event) → Sofar l all n r sum
    → Gives e all (at r all) (at t all)
    → next ≡ sum + payload_length (nat_eq e.number n) e.value → Sofar l all n t next
one_more law moves l all n r t sum next e h given same =
    let i = item e.number e.value in
    record {
      items = h.items ++ i ∷ [];
      place = law l all h.items i (at r all) (at t all) given.behind h.place given.moves;
      is = omega (arith, same, h.is, item_is e.number n e.value, total-append n h.items (i ∷ []));
      room = omega (arith, same, fits_more moves l all n r t sum e h given);
    }

pub all_seen : ReaderIsDone → (l : Limits) (all : List ℕ) (n : ℕ) (r : Reader) (sum : ℕ)
    → Sofar l all n r sum → IsDone (at r all)
    → (fs : Fields) × Spells fs all × Fits (charge fs) l × (sum ≡ bytes_of_field n fs)
all_seen law l all n r sum h done =
    let (fs, spelled, fits, is) = law l all h.items (at r all) h.place done in
    (fs, spelled, fits, h.is ∙ ap (total n) is ∙ total-fields n fs)
