-- What stands at the front within the limits, where it takes so much of them.
use Rattle.std.specs.Prelude.{◌≡◌, ◌⊎◌, ℕ, List}
use Rattle.wire_base.specs.declared.tag.WireType.{WireType}
use Rattle.wire_base.specs.Charge.{charge}
use Rattle.wire_base.specs.Ending.{Ending, GoesOn, Ends}
use Rattle.wire_base.specs.Field.{Payload, Fields, none, joined, push}
use Rattle.wire_base.specs.Limits.{Limits, Charge, Fits, left_after}
use Rattle.wire_base.specs.Read.{Reads}
use Rattle.wire_base.specs.Spells.{Spells, IsPayload}

-- behind a tag (n, w) the payload p stands at the front of old, its charge fits, and new is what
-- follows
pub record TakesPayload (c : Charge) (l : Limits) (n : ℕ) (w : WireType) (p : Payload)
    (old new : List ℕ) : Type 0 where
  pub read : Reads old (IsPayload n w p) new
  pub fits : Fits c l

-- the records fs stand at the front of old, their charge fits, and new is what follows
pub record TakesFields (c : Charge) (l : Limits) (fs : Fields) (old new : List ℕ) : Type 0 where
  pub read : Reads old (Spells fs) new
  pub fits : Fits c l

-- the last of the records that stand at the front of old, where there is one, begins where the list
-- goes on
abbrev pub LastGoesOn : Ending → Fields → List ℕ → Type 0
LastGoesOn ending fs old =
    (fs ≡ none)
    ⊎ ((before : Fields) × (n : ℕ) × (p : Payload) × (rest : List ℕ) × (fs ≡ push before n p)
    × Reads old (Spells before) rest × GoesOn ending rest)

-- The records fs stand at the front of old, their charge fits, the list ends behind the last of
-- them and not before it, and new is what follows its end.
pub record TakesUntil (c : Charge) (l : Limits) (ending : Ending) (fs : Fields)
    (old new : List ℕ) : Type 0 where
  pub end : List ℕ
  pub fields : TakesFields c l fs old end
  pub ended : Ends ending end new
  pub last : LastGoesOn ending fs old

-- Records that stand at the front of old are kept behind others, new is what follows them, and what
-- they are charged was taken from the limits.
pub record KeepsBehind (before after : Limits) (kept : Fields) (old : List ℕ) (kept_then : Fields)
    (new : List ℕ) : Type 0 where
  pub fields : Fields
  pub taken : TakesFields (charge fields) before fields old new
  pub behind : kept_then ≡ joined kept fields
  pub left : after ≡ left_after before (charge fields)
