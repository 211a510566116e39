-- Spans of unknown fields, one behind another: what they are charged, and which records they spell.
use Rattle.std.specs.Prelude.{◌≡◌, ◌⊎◌, ℕ, ◌^◌, ◌≤◌, List, [], ◌∷◌, ◌++◌}
use Rattle.wire_base.specs.declared.error.DecodeError.{DecodeError}
use Rattle.wire_base.specs.declared.error.DecodeError.TheVariants.{OutOfMemory, UnknownFieldLimitExceeded}
use Rattle.wire_base.specs.Charge.{charge}
use Rattle.wire_base.specs.Ending.{by_input}
use Rattle.wire_base.specs.Field.{Fields, none, joined}
use Rattle.wire_base.specs.Items.{Item, SpellsItems, TakesItems, SpanFault, flat_charge}
use Rattle.wire_base.specs.Limits.{Limits, Charge, Counts, Fits, both, counted, left_after, no_charge, with_unknown_bytes}
use Rattle.wire_base.specs.Refusal.{ListRefusal}
use Rattle.wire_base.specs.Spells.{Spells}

-- ---- what spans are charged

-- Each span is items, and this is what flat walks over all of them charge: the counts are sums, and
-- the depth is the greatest.
abbrev pub AreCharged : List (List ℕ) → Charge → Type 0
AreCharged [] c = c ≡ no_charge
AreCharged (s ∷ spans) c =
    (items : List Item) × (behind : Charge) × SpellsItems items s × AreCharged spans behind
    × (c ≡ both (flat_charge items) behind)

-- the charge of so many unknown fields, which nest so deep and have payloads of so many bytes
abbrev pub fields_charge : ℕ → ℕ → ℕ → Charge
fields_charge depth fields bytes = record {
  depth = depth;
  counts = record { unknown_fields = fields; element_memory = 0; unknown_bytes = bytes };
}

-- limits that leave nothing behind this charge
abbrev pub exact_limits : Charge → Limits
exact_limits c =
    with_unknown_bytes (counted c.depth c.counts.unknown_fields) c.counts.unknown_bytes

-- one of the counts that a flat walk takes is more than `usize::MAX`
abbrev pub PassUsize : Counts → Type 0
PassUsize c = (2 ^ 64 ≤ c.unknown_fields) ⊎ (2 ^ 64 ≤ c.unknown_bytes)

-- a span is items for which there is room, and its slots and those of other spans, or its bytes and
-- theirs, are more than `usize::MAX`
abbrev pub TooMany : Limits → List (List ℕ) → List ℕ → Type 0
TooMany l spans span =
    (items : List Item) × (before : Charge) × TakesItems items l span [] × AreCharged spans before
    × PassUsize (both before (flat_charge items)).counts

-- A span is not added to others: it has a fault, its slots and theirs or its bytes and theirs are
-- too many to be counted, or memory is wanted for one span more.
abbrev pub PushRefusal : Limits → List (List ℕ) → List ℕ → DecodeError → Type 0
PushRefusal l spans span e =
    SpanFault l span e
    ⊎ (((e ≡ UnknownFieldLimitExceeded) × TooMany l spans span) ⊎ (e ≡ OutOfMemory))

-- ---- which records spans spell

-- each span spells records, and these are all of them, one behind another
abbrev pub SpellEach : List (List ℕ) → Fields → Type 0
SpellEach [] fs = fs ≡ none
SpellEach (s ∷ spans) fs =
    (own : Fields) × (behind : Fields) × Spells own s × SpellEach spans behind
    × (fs ≡ joined own behind)

-- spans that spell records within the limits, and then one that is refused as a list, under what is
-- left
pub data SpansRefusal : Limits → List (List ℕ) → DecodeError → Type 0 where
  past : {l : Limits} {spans : List (List ℕ)} {e : DecodeError}
      (front : List (List ℕ)) (fs : Fields) (span : List ℕ) (behind : List (List ℕ))
      → spans ≡ front ++ span ∷ behind → SpellEach front fs → Fits (charge fs) l
      → ListRefusal (left_after l (charge fs)) by_input span e → SpansRefusal l spans e
