-- What holds of items. Each statement is proved as the contract of a law of src/laws.rt.
use Rattle.std.specs.Prelude.{◌≡◌, ℕ, ◌^◌, ◌<◌, ◌≤◌, List, [], length}
use Rattle.wire_base.specs.declared.error.DecodeError.{DecodeError}
use Rattle.wire_base.specs.Charge.{charge}
use Rattle.wire_base.specs.Field.{Fields}
use Rattle.wire_base.specs.Items.{Item, SpellsItems, TakesItems, SpanFault, item_bytes, flat_charge}
use Rattle.wire_base.specs.Limits.{Limits}
use Rattle.wire_base.specs.Spells.{Spells}

-- a text of records is one of items, and a flat walk takes for these what the records are charged,
-- where no level is past the greatest that it counts
abbrev pub RecordsAreItems : Type 0
RecordsAreItems =
    (fs : Fields) (text : List ℕ) → Spells fs text → (charge fs).depth < 2 ^ 32
    → (items : List Item) × SpellsItems items text × (flat_charge items ≡ charge fs)

-- the length-delimited payloads of items are no longer than their text
abbrev pub PayloadsInside : Type 0
PayloadsInside =
    (items : List Item) (text : List ℕ) → SpellsItems items text → item_bytes items ≤ length text

-- a text spells one list of items at most
abbrev pub OneWalk : Type 0
OneWalk =
    (items others : List Item) (text : List ℕ) → SpellsItems items text → SpellsItems others text
    → items ≡ others

-- a span has one fault at most
abbrev pub OneSpanFault : Type 0
OneSpanFault =
    (l : Limits) (span : List ℕ) (e f : DecodeError) → SpanFault l span e → SpanFault l span f
    → e ≡ f

-- where the grammar names a fault, the span is no list of items for which there is room
abbrev pub NoWalkBesideFault : Type 0
NoWalkBesideFault =
    (items : List Item) (l : Limits) (span : List ℕ) (e : DecodeError) → SpanFault l span e
    → TakesItems items l span [] → ⊥
