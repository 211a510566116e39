-- Records as items, and what a flat walk takes for them.
use Rattle.std.proofs.Common.{◌≡◌, ◌≢◌, ℕ, ◌+◌, ◌-◌, ◌^◌, ◌<◌, ◌≤◌, max, List, [], ◌∷◌, ◌++◌, refl, sym, ap, ◌∙◌, subst, arith, append_assoc, append-nil}
use Rattle.wire_base.specs.declared.tag.WireType.TheVariants.{StartGroup, EndGroup}
use Rattle.wire_base.specs.Charge.{payload_charge, payload_count, charge, count}
use Rattle.wire_base.specs.Field.{Payload, varint, fixed64, fixed32, bytes, group, Fields, none, field, type_of}
use Rattle.wire_base.specs.ItemLaws.{RecordsAreItems}
use Rattle.wire_base.specs.Items.{Item, start, end, whole, IsItem, SpellsItems, slots, item_bytes, level_after, greatest_level, flat_charge}
use Rattle.wire_base.specs.Limits.{Charge, sums}
use Rattle.wire_base.specs.Read.{Reads}
use Rattle.wire_base.specs.Spells.{SpellsPayload, Spells}
use Rattle.wire_base.specs.Tag.{IsTagSpelling}
use Rattle.wire_base.proofs.Agreement.{no_elements}
use Rattle.wire_base.proofs.Items.{level_behind}
use Rattle.wire_base.proofs.LimitsLaws.{same_counts}
use Rattle.wire_base.proofs.ReadLaws.{Reads-inside}

-- ---- items behind items

items_joined : (items others : List Item) (a b : List ℕ) → SpellsItems items a
    → SpellsItems others b → SpellsItems (items ++ others) (a ++ b)
items_joined [] others a b empty k =
    subst (λ t. SpellsItems others (t ++ b)) (sym empty) k
items_joined (i ∷ items) others a b (rest, first, more) k = (
  rest ++ b,
  Reads-inside (IsItem i) (a ++ b) a rest b refl first,
  items_joined items others rest b more k,
)

slots-joined : (items others : List Item) → slots (items ++ others) ≡ slots items + slots others
slots-joined [] others = omega arith
slots-joined (start n ∷ items) others = omega (arith, slots-joined items others)
slots-joined (end n ∷ items) others = slots-joined items others
slots-joined (whole n p ∷ items) others = omega (arith, slots-joined items others)

item_bytes-joined : (items others : List Item)
    → item_bytes (items ++ others) ≡ item_bytes items + item_bytes others
item_bytes-joined [] others = omega arith
item_bytes-joined (start n ∷ items) others = item_bytes-joined items others
item_bytes-joined (end n ∷ items) others = item_bytes-joined items others
item_bytes-joined (whole n p ∷ items) others = omega (arith, item_bytes-joined items others)

pub counts-joined : (items others : List Item)
    → (flat_charge (items ++ others)).counts
    ≡ sums (flat_charge items).counts (flat_charge others).counts
counts-joined items others =
    same_counts _ _ (slots-joined items others) refl (item_bytes-joined items others)

behind-joined : (level : ℕ) (items others : List Item)
    → level_behind level (items ++ others) ≡ level_behind (level_behind level items) others
behind-joined level [] others = refl
behind-joined level (i ∷ items) others = behind-joined (level_after i level) items others

-- the level that items begin at is none above the greatest
begins_below : (level : ℕ) (items : List Item) → level ≤ greatest_level level items
begins_below level [] = omega arith
begins_below level (i ∷ items) = omega arith

greatest-joined : (level : ℕ) (items others : List Item)
    → greatest_level level (items ++ others)
    ≡ max (greatest_level level items) (greatest_level (level_behind level items) others)
greatest-joined level [] others = omega (arith, begins_below level others)
greatest-joined level (i ∷ items) others =
    omega (arith, greatest-joined (level_after i level) items others)

-- ---- the items of records

abbrev mutual
  payload_items : ℕ → Payload → List Item
  payload_items n (varint v) = whole n (varint v) ∷ []
  payload_items n (fixed64 v) = whole n (fixed64 v) ∷ []
  payload_items n (fixed32 v) = whole n (fixed32 v) ∷ []
  payload_items n (bytes b) = whole n (bytes b) ∷ []
  payload_items n (group fs) = start n ∷ (items_of fs ++ end n ∷ [])

  items_of : Fields → List Item
  items_of none = []
  items_of (field n p fs) = payload_items n p ++ items_of fs

-- a text, all of it
Reads-whole : (IsText : List ℕ → Type 0) (text : List ℕ) → IsText text → Reads text IsText []
Reads-whole IsText text h = record { text = text; parts = sym (append-nil text); spelled = h }

-- a record that is no group is one item
one_item : (n : ℕ) (p : Payload) (tag text : List ℕ) → type_of p ≢ StartGroup
    → IsTagSpelling n (type_of p) tag → SpellsPayload n p text
    → SpellsItems (whole n p ∷ []) (tag ++ text)
one_item n p tag text flat h k = (
  [],
  Reads-whole (IsItem (whole n p)) (tag ++ text) (
    flat,
    (
      text,
      [],
      record { text = tag; parts = refl; spelled = h },
      Reads-whole (SpellsPayload n p) text k,
      refl,
    ),
  ),
  refl,
)

mutual
  payload_walk : (n : ℕ) (p : Payload) (tag text : List ℕ) → IsTagSpelling n (type_of p) tag
      → SpellsPayload n p text → SpellsItems (payload_items n p) (tag ++ text)
  payload_walk n (varint v) tag text h k = one_item n (varint v) tag text (λ is. absurd cc) h k
  payload_walk n (fixed64 v) tag text h k = one_item n (fixed64 v) tag text (λ is. absurd cc) h k
  payload_walk n (fixed32 v) tag text h k = one_item n (fixed32 v) tag text (λ is. absurd cc) h k
  payload_walk n (bytes b) tag text h k = one_item n (bytes b) tag text (λ is. absurd cc) h k
  payload_walk n (group fs) tag text h (last, body, ended) = (
    text,
    record { text = tag; parts = refl; spelled = h },
    subst (SpellsItems (items_of fs ++ end n ∷ [])) (sym body.parts)
        (items_joined (items_of fs) (end n ∷ []) body.text last
        (walk_of fs body.text body.spelled)
        ([], Reads-whole (IsTagSpelling n EndGroup) last ended, refl)),
  )

  walk_of : (fs : Fields) (text : List ℕ) → Spells fs text → SpellsItems (items_of fs) text
  walk_of none text h = h
  walk_of (field n p fs) text (behind, rest, tag, payload, others) =
      subst (SpellsItems (payload_items n p ++ items_of fs))
      (append_assoc tag.text payload.text rest
      ∙ ap (λ t. tag.text ++ t) (sym payload.parts) ∙ sym tag.parts)
      (items_joined (payload_items n p) (items_of fs) (tag.text ++ payload.text) rest
      (payload_walk n p tag.text payload.text tag.spelled payload.spelled) (walk_of fs rest others))

-- ---- what a flat walk takes for them

mutual
  payload_slots : (n : ℕ) (p : Payload) → slots (payload_items n p) ≡ payload_count p
  payload_slots n (varint v) = omega arith
  payload_slots n (fixed64 v) = omega arith
  payload_slots n (fixed32 v) = omega arith
  payload_slots n (bytes b) = omega arith
  payload_slots n (group fs) =
      omega (arith, slots-joined (items_of fs) (end n ∷ []), slots_of fs)

  slots_of : (fs : Fields) → slots (items_of fs) ≡ count fs
  slots_of none = omega arith
  slots_of (field n p fs) =
      omega (arith, slots-joined (payload_items n p) (items_of fs), payload_slots n p, slots_of fs)

mutual
  payload_item_bytes : (n : ℕ) (p : Payload)
      → item_bytes (payload_items n p) ≡ (payload_charge p).counts.unknown_bytes
  payload_item_bytes n (varint v) = omega arith
  payload_item_bytes n (fixed64 v) = omega arith
  payload_item_bytes n (fixed32 v) = omega arith
  payload_item_bytes n (bytes b) = omega arith
  payload_item_bytes n (group fs) =
      omega (arith, item_bytes-joined (items_of fs) (end n ∷ []), item_bytes_of fs)

  item_bytes_of : (fs : Fields) → item_bytes (items_of fs) ≡ (charge fs).counts.unknown_bytes
  item_bytes_of none = omega arith
  item_bytes_of (field n p fs) =
      omega (
        arith,
        item_bytes-joined (payload_items n p) (items_of fs),
        payload_item_bytes n p,
        item_bytes_of fs,
      )

-- the items rise so far above the level that they begin at, and end at it
record Rises (level : ℕ) (items : List Item) (by : ℕ) : Type 0 where
  pub behind : level_behind level items ≡ level
  pub greatest : greatest_level level items ≡ level + by

-- one list behind another
rises_joined : (level a b : ℕ) (items others : List Item) → Rises level items a
    → Rises level others b → Rises level (items ++ others) (max a b)
rises_joined level a b items others h k =
    let there : greatest_level (level_behind level items) others ≡ greatest_level level others =
    ap (λ l. greatest_level l others) h.behind in
    record {
      behind = behind-joined level items others
          ∙ ap (λ l. level_behind l others) h.behind ∙ k.behind;
      greatest = omega (
        arith,
        greatest-joined level items others,
        there,
        h.greatest,
        k.greatest,
      );
    }

flat_rises : (level n : ℕ) (p : Payload) → Rises level (whole n p ∷ []) 0
flat_rises level n p = record { behind = refl; greatest = omega arith }

-- a group around items
group_rises : (level n by : ℕ) (items : List Item) → level + (by + 1) < 2 ^ 32
    → Rises (level + 1) items by → Rises level (start n ∷ (items ++ end n ∷ [])) (by + 1)
group_rises level n by items few h =
    let up : level_after (start n) level ≡ level + 1 = omega (arith, few) in
    let last : level_behind (level + 1) (items ++ end n ∷ []) ≡ level + 1 - 1 =
    behind-joined (level + 1) items (end n ∷ []) ∙ ap (λ l. l - 1) h.behind in
    let top : greatest_level (level_behind (level + 1) items) (end n ∷ [])
    ≡ greatest_level (level + 1) (end n ∷ []) =
    ap (λ l. greatest_level l (end n ∷ [])) h.behind in
    let inside : greatest_level (level + 1) (items ++ end n ∷ []) ≡ level + 1 + by =
    omega (arith, greatest-joined (level + 1) items (end n ∷ []), top, h.greatest) in
    record {
      behind = ap (λ l. level_behind l (items ++ end n ∷ [])) up ∙ omega (arith, last);
      greatest = omega (
        arith,
        ap (λ l. greatest_level l (items ++ end n ∷ [])) up,
        inside,
      );
    }

mutual
  payload_rises : (level n : ℕ) (p : Payload) → level + (payload_charge p).depth < 2 ^ 32
      → Rises level (payload_items n p) (payload_charge p).depth
  payload_rises level n (varint v) few = flat_rises level n (varint v)
  payload_rises level n (fixed64 v) few = flat_rises level n (fixed64 v)
  payload_rises level n (fixed32 v) few = flat_rises level n (fixed32 v)
  payload_rises level n (bytes b) few = flat_rises level n (bytes b)
  payload_rises level n (group fs) few =
      let deep : max 0 ((charge fs).depth + 1) ≡ (charge fs).depth + 1 = omega arith in
      subst (Rises level (payload_items n (group fs))) (sym deep)
      (group_rises level n (charge fs).depth (items_of fs) (omega (arith, few, deep))
      (rises_of (level + 1) fs (omega (arith, few, deep))))

  rises_of : (level : ℕ) (fs : Fields) → level + (charge fs).depth < 2 ^ 32
      → Rises level (items_of fs) (charge fs).depth
  rises_of level none few = record { behind = refl; greatest = omega arith }
  rises_of level (field n p fs) few =
      rises_joined level (payload_charge p).depth (charge fs).depth (payload_items n p)
      (items_of fs) (payload_rises level n p (omega (arith, few)))
      (rises_of level fs (omega (arith, few)))

-- ---- the law

same_charge : (a b : Charge) → a.depth ≡ b.depth → a.counts ≡ b.counts → a ≡ b
same_charge a b depth counts = λ i. record { depth = depth i; counts = counts i }

pub records_are_items_lemma : RecordsAreItems
records_are_items_lemma fs text h few =
    let rises = rises_of 0 fs (omega (arith, few)) in (
      items_of fs,
      walk_of fs text h,
      same_charge (flat_charge (items_of fs)) (charge fs) (omega (arith, rises.greatest))
          (same_counts _ _ (slots_of fs) (sym (no_elements fs)) (item_bytes_of fs)),
    )
