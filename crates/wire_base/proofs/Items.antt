-- Items of a flat walk, one after another.
use Rattle.std.proofs.Common.{◌≡◌, ◌≢◌, ℕ, ◌+◌, ◌-◌, ◌^◌, ◌≤◌, max, min, List, [], ◌∷◌, ◌++◌, refl, sym, ap, ◌∙◌, append-nil, subst, arith, length, length-append}
use Rattle.wire_base.specs.declared.error.DecodeError.{DecodeError}
use Rattle.wire_base.specs.declared.tag.WireType.{WireType}
use Rattle.wire_base.specs.declared.tag.WireType.TheVariants.{StartGroup, EndGroup, LengthDelimited}
use Rattle.wire_base.specs.Charge.{payload_charge}
use Rattle.wire_base.specs.Fault.{PayloadFault}
use Rattle.wire_base.specs.Field.{Payload, varint, fixed64, fixed32, group, none, field, type_of}
use Rattle.wire_base.specs.Items.{Item, start, end, whole, IsItem, SpellsItems, TakesItems, slots, item_bytes, level_after, greatest_level, flat_charge, ItemFault, SpanFault, past}
use Rattle.wire_base.specs.Limits.{Limits, HaveRoom, Fits, one_field, sums, left_after, uncounted}
use Rattle.wire_base.specs.Read.{Reads}
use Rattle.wire_base.specs.Tag.{IsTagSpelling}
use Rattle.wire_base.specs.Taken.{TakesPayload}
use Rattle.wire_base.proofs.Agreement.{bytes_of_list}
use Rattle.wire_base.proofs.JoinedLaws.{Reads-one}
use Rattle.wire_base.proofs.LimitsLaws.{same_counts, HaveRoom-none, HaveRoom-sums, left_after-both, left_after-nothing, uncounted_slot, uncounted_bytes}
use Rattle.wire_base.proofs.ReadLaws.{Reads-inside, joined_parts}

-- ---- one item more at the end

items_text : (items : List Item) (i : Item) (text one : List ℕ) → SpellsItems items text
    → IsItem i one → SpellsItems (items ++ i ∷ []) (text ++ one)
items_text [] i text one empty h = (
  [],
  record { text = one; parts = ap (λ t. t ++ one) empty ∙ sym (append-nil one); spelled = h },
  refl,
)
items_text (j ∷ items) i text one (rest, first, others) h = (
  rest ++ one,
  Reads-inside (IsItem j) (text ++ one) text rest one refl first,
  items_text items i rest one others h,
)

pub items-push : (items : List Item) (i : Item) (old mid new : List ℕ)
    → Reads old (SpellsItems items) mid → Reads mid (IsItem i) new
    → Reads old (SpellsItems (items ++ i ∷ [])) new
items-push items i old mid new h k = record {
  text = h.text ++ k.text;
  parts = joined_parts (SpellsItems items) (IsItem i) old mid new h k;
  spelled = items_text items i h.text k.text h.spelled k.spelled;
}

pub slots-push : (items : List Item) (i : Item)
    → slots (items ++ i ∷ []) ≡ slots items + slots (i ∷ [])
slots-push [] i = omega arith
slots-push (start n ∷ items) i = omega (arith, slots-push items i)
slots-push (end n ∷ items) i = slots-push items i
slots-push (whole n p ∷ items) i = omega (arith, slots-push items i)

item_bytes-push : (items : List Item) (i : Item)
    → item_bytes (items ++ i ∷ []) ≡ item_bytes items + item_bytes (i ∷ [])
item_bytes-push [] i = omega arith
item_bytes-push (start n ∷ items) i = item_bytes-push items i
item_bytes-push (end n ∷ items) i = item_bytes-push items i
item_bytes-push (whole n p ∷ items) i = omega (arith, item_bytes-push items i)

-- the payloads of items are no longer than their text
pub item_bytes-most : (items : List Item) (text : List ℕ) → SpellsItems items text
    → item_bytes items ≤ length text
item_bytes-most [] text h = omega arith
item_bytes-most (start n ∷ items) text (rest, first, others) =
    omega (
      arith,
      item_bytes-most items rest others,
      ap length first.parts ∙ length-append first.text rest,
    )
item_bytes-most (end n ∷ items) text (rest, first, others) =
    omega (
      arith,
      item_bytes-most items rest others,
      ap length first.parts ∙ length-append first.text rest,
    )
item_bytes-most (whole n p ∷ items) text (rest, first, others) =
    omega (
      arith,
      bytes_of_list (field n p none) first.text first.spelled.1,
      item_bytes-most items rest others,
      ap length first.parts ∙ length-append first.text rest,
    )

-- the level behind items
abbrev pub level_behind : ℕ → List Item → ℕ
level_behind level [] = level
level_behind level (i ∷ items) = level_behind (level_after i level) items

pub level_behind-push : (level : ℕ) (items : List Item) (i : Item)
    → level_behind level (items ++ i ∷ []) ≡ level_after i (level_behind level items)
level_behind-push level [] i = refl
level_behind-push level (j ∷ items) i = level_behind-push (level_after j level) items i

pub greatest_level-push : (level : ℕ) (items : List Item) (i : Item)
    → greatest_level level (items ++ i ∷ [])
    ≡ max (greatest_level level items) (level_after i (level_behind level items))
greatest_level-push level [] i = refl
greatest_level-push level (j ∷ items) i =
    let next = level_after j level in
    let rest = greatest_level-push next items i in
    omega (arith, rest)

pub level_behind-most : (level : ℕ) (items : List Item)
    → level_behind level items ≤ greatest_level level items
level_behind-most level [] = omega arith
level_behind-most level (i ∷ items) =
    let rest = level_behind-most (level_after i level) items in
    omega (arith, rest)

-- ---- what a walk has taken

counts-push : (items : List Item) (i : Item)
    → (flat_charge (items ++ i ∷ [])).counts
    ≡ sums (flat_charge items).counts (flat_charge (i ∷ [])).counts
counts-push items i = same_counts _ _ (slots-push items i) refl (item_bytes-push items i)

left_after-push : (l : Limits) (items : List Item) (i : Item)
    → left_after l (flat_charge (items ++ i ∷ []))
    ≡ left_after (left_after l (flat_charge items)) (flat_charge (i ∷ []))
left_after-push l items i =
    ap (λ k. left_after l (record { depth = 0; counts = k })) (counts-push items i)
    ∙ sym (left_after-both l (flat_charge items) (flat_charge (i ∷ [])))

-- a record that is no group counts as an item what it is charged
whole_counts : (n : ℕ) (p : Payload) → type_of p ≢ StartGroup
    → (flat_charge (whole n p ∷ [])).counts ≡ (payload_charge p).counts
whole_counts n (varint v) flat = same_counts _ _ (omega arith) refl (omega arith)
whole_counts n (fixed64 v) flat = same_counts _ _ (omega arith) refl (omega arith)
whole_counts n (fixed32 v) flat = same_counts _ _ (omega arith) refl (omega arith)
whole_counts n (Payload.bytes b) flat = same_counts _ _ (omega arith) refl (omega arith)
whole_counts n (group fs) flat = absurd (flat refl)

-- where there is room for the item, its charge fits
pub whole_fits : (l : Limits) (n : ℕ) (p : Payload) → type_of p ≢ StartGroup
    → HaveRoom l.counts (flat_charge (whole n p ∷ [])).counts → Fits (payload_charge p) l
whole_fits l n (varint v) flat room = record {
  depth = omega arith;
  counts = subst (HaveRoom l.counts) (whole_counts n (varint v) flat) room;
}
whole_fits l n (fixed64 v) flat room = record {
  depth = omega arith;
  counts = subst (HaveRoom l.counts) (whole_counts n (fixed64 v) flat) room;
}
whole_fits l n (fixed32 v) flat room = record {
  depth = omega arith;
  counts = subst (HaveRoom l.counts) (whole_counts n (fixed32 v) flat) room;
}
whole_fits l n (Payload.bytes b) flat room = record {
  depth = omega arith;
  counts = subst (HaveRoom l.counts) (whole_counts n (Payload.bytes b) flat) room;
}
whole_fits l n (group fs) flat room = absurd (flat refl)

-- the items of a span up to what is left, the level behind them and the greatest one, how many
-- bytes their payloads are, and what they leave
pub record Walked (l : Limits) (span rest : List ℕ) (at deepest bytes : ℕ) (now : Limits)
    : Type 0 where
  pub items : List Item
  pub taken : TakesItems items l span rest
  pub level : at ≡ level_behind 0 items
  pub depth : deepest ≡ greatest_level 0 items
  pub payloads : bytes ≡ item_bytes items
  pub left : now ≡ left_after l (flat_charge items)

pub walked_none : (l : Limits) (span : List ℕ) → Walked l span span 0 0 0 l
walked_none l span = record {
  items = [];
  taken = record {
    read = record { text = []; parts = refl; spelled = refl };
    room = HaveRoom-none l.counts;
  };
  level = refl;
  depth = refl;
  payloads = refl;
  left = sym (left_after-nothing l);
}

-- the payloads of items are no longer than what the walk has passed over
pub walked_bytes : (l : Limits) (span rest : List ℕ) (at deepest bytes : ℕ) (now : Limits)
    → Walked l span rest at deepest bytes now → bytes + length rest ≤ length span
walked_bytes l span rest at deepest bytes now h =
    let read = h.taken.read in
    omega (
      arith,
      h.payloads,
      item_bytes-most h.items read.text read.spelled,
      ap length read.parts ∙ length-append read.text rest,
    )

module _ (l : Limits) (span mid new : List ℕ) (at deepest bytes : ℕ) (now : Limits)
    (h : Walked l span mid at deepest bytes now) (n : ℕ) where
  walked_more : (i : Item) (next : ℕ) → Reads mid (IsItem i) new
      → HaveRoom now.counts (flat_charge (i ∷ [])).counts → next ≡ level_after i at
      → Walked l span new next (max deepest next) (bytes + item_bytes (i ∷ []))
      (left_after now (flat_charge (i ∷ [])))
  walked_more i next k room step = record {
    items = h.items ++ i ∷ [];
    taken = record {
      read = items-push h.items i span mid new h.taken.read k;
      room = subst (HaveRoom l.counts) (sym (counts-push h.items i))
          (HaveRoom-sums l.counts (flat_charge h.items).counts (flat_charge (i ∷ [])).counts
          h.taken.room
          (subst (λ m. HaveRoom m.counts (flat_charge (i ∷ [])).counts) h.left room));
    };
    level = step ∙ ap (level_after i) h.level ∙ sym (level_behind-push 0 h.items i);
    depth = ap (max deepest) (step ∙ ap (level_after i) h.level)
        ∙ ap (λ d. max d (level_after i (level_behind 0 h.items))) h.depth
        ∙ sym (greatest_level-push 0 h.items i);
    payloads = ap (λ k. k + item_bytes (i ∷ [])) h.payloads ∙ sym (item_bytes-push h.items i);
    left = ap (λ m. left_after m (flat_charge (i ∷ []))) h.left
        ∙ sym (left_after-push l h.items i);
  }

  -- no level is above the greatest one
  level_most : at ≤ deepest
  level_most = omega (arith, h.level, h.depth, level_behind-most 0 h.items)

  pub walked_end : (next : ℕ) → Reads mid (IsTagSpelling n EndGroup) new → next ≡ at - 1
      → Walked l span new next deepest bytes now
  walked_end next tag step =
      let same : max deepest next ≡ deepest = omega (arith, level_most, step) in
      let no_more : bytes + 0 ≡ bytes = omega arith in
      subst (λ d. Walked l span new next d bytes now) same
      (subst (λ k. Walked l span new next (max deepest next) k now) no_more
      (subst (Walked l span new next (max deepest next) (bytes + 0)) (left_after-nothing now)
      (walked_more (end n) next tag (HaveRoom-none now.counts) step)))

  pub walked_start : (next : ℕ) → Reads mid (IsTagSpelling n StartGroup) new → Fits one_field now
      → next ≡ min (at + 1) (2 ^ 32 - 1)
      → Walked l span new next (max deepest next) bytes (left_after now one_field)
  walked_start next tag slot step =
      let no_more : bytes + 0 ≡ bytes = omega arith in
      subst (λ k. Walked l span new next (max deepest next) k (left_after now one_field)) no_more
      (walked_more (start n) next tag slot.counts step)

  pub walked_whole : (w : WireType) (p : Payload) (behind : List ℕ) (more : ℕ)
      → Reads mid (IsTagSpelling n w) behind → w ≢ StartGroup
      → TakesPayload (payload_charge p) now n w p behind new
      → more ≡ (payload_charge p).counts.unknown_bytes
      → Walked l span new at deepest (bytes + more) (left_after now (payload_charge p))
  walked_whole w p behind more tag flat payload is =
      let one = Reads-one n w p mid behind new tag payload.read in
      let no_group : type_of p ≢ StartGroup =
      λ same. flat (sym payload.read.spelled.kind ∙ same) in
      let item : Reads mid (IsItem (whole n p)) new = record {
        text = one.text;
        parts = one.parts;
        spelled = (no_group, one.spelled);
      } in
      let counts = whole_counts n p no_group in
      let same : max deepest at ≡ deepest = omega (arith, level_most) in
      let all : bytes + item_bytes (whole n p ∷ []) ≡ bytes + more = omega (arith, is) in
      subst (λ d. Walked l span new at d (bytes + more) (left_after now (payload_charge p))) same
      (subst
      (λ k. Walked l span new at (max deepest at) k (left_after now (payload_charge p))) all
      (subst (λ k. Walked l span new at (max deepest at) (bytes + item_bytes (whole n p ∷ []))
      (left_after now (record { depth = 0; counts = k }))) counts
      (walked_more (whole n p) at item
      (subst (HaveRoom now.counts) (sym counts) payload.fits.counts) refl)))

-- ---- where a walk stops

pub walked_stops : (l : Limits) (span rest : List ℕ) (at deepest bytes : ℕ) (now : Limits)
    (e : DecodeError) → Walked l span rest at deepest bytes now → ItemFault now rest e
    → SpanFault l span e
walked_stops l span rest at deepest bytes now e h fault =
    past h.items rest h.taken (subst (λ m. ItemFault m rest e) h.left fault)

-- what skipping takes that is no group and has no bytes of its own is charged a slot
pub flat_takes : (l now : Limits) (levels n : ℕ) (w : WireType) (p : Payload) (old new : List ℕ)
    → w ≢ StartGroup → w ≢ LengthDelimited → Fits one_field l → now ≡ left_after l one_field
    → TakesPayload (payload_charge p) (uncounted levels) n w p old new
    → (q : Payload) × TakesPayload (payload_charge q) l n w q old new
    × (now ≡ left_after l (payload_charge q)) × (0 ≡ (payload_charge q).counts.unknown_bytes)
flat_takes l now levels n w (varint v) old new flat fixed slot left h =
    (varint v, record { read = h.read; fits = slot }, left, refl)
flat_takes l now levels n w (fixed64 v) old new flat fixed slot left h =
    (fixed64 v, record { read = h.read; fits = slot }, left, refl)
flat_takes l now levels n w (fixed32 v) old new flat fixed slot left h =
    (fixed32 v, record { read = h.read; fits = slot }, left, refl)
flat_takes l now levels n w (Payload.bytes b) old new flat fixed slot left h =
    absurd (fixed (sym h.read.spelled.kind))
flat_takes l now levels n w (group fs) old new flat fixed slot left h =
    absurd (flat (sym h.read.spelled.kind))

-- without groups, and with a slot, the limits change no fault
pub flat_fault : (l : Limits) (levels n : ℕ) (w : WireType) (bytes : List ℕ) (e : DecodeError)
    → Fits one_field l → w ≢ StartGroup → PayloadFault (uncounted levels) n w bytes e
    → PayloadFault l n w bytes e
flat_fault l levels n w bytes e slot flat (PayloadFault.no_slot full) =
    absurd (full (uncounted_slot levels))
flat_fault l levels n w bytes e slot flat (PayloadFault.no_varint also fault) =
    PayloadFault.no_varint slot fault
flat_fault l levels n w bytes e slot flat (PayloadFault.short_fixed64 also short) =
    PayloadFault.short_fixed64 slot short
flat_fault l levels n w bytes e slot flat (PayloadFault.short_fixed32 also short) =
    PayloadFault.short_fixed32 slot short
flat_fault l levels n w bytes e slot flat (PayloadFault.no_bytes also fault) =
    PayloadFault.no_bytes slot fault
flat_fault l levels n w bytes e slot flat (PayloadFault.no_room b rest also h full) =
    absurd (full (uncounted_bytes levels (length b)))
flat_fault l levels n w bytes e slot flat (PayloadFault.end_outside also) =
    PayloadFault.end_outside slot
flat_fault l levels n w bytes e slot flat (PayloadFault.no_level also none_left) =
    absurd (flat refl)
flat_fault l levels n w bytes e slot flat (PayloadFault.in_group also level fault) =
    absurd (flat refl)
