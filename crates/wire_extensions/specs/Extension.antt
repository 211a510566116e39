-- An extension: which records are its own, what they are worth, and what is put in their place.
use Rattle.std.specs.Prelude.{ℕ, ◌≤◌, cond, ◌==◌, ◌&&◌, Option, Some, None}
use Rattle.wire_codec.specs.Charge.{charge}
use Rattle.wire_codec.specs.Field.{Payload, Fields, none, field, joined, type_of}
use Rattle.wire_codec.specs.Folds.{Step, Folds}
use Rattle.wire_codec.specs.Limits.{Limits, Charge, Fits}
use Rattle.wire_codec.specs.Records.{Records, text, text_size}
use Rattle.wire_codec.specs.Spells.{Spells}
use Rattle.wire_fields.specs.declared.leaving.OwnTypes.{OwnTypes}
use Rattle.wire_fields.specs.Leaving.{has_type}
use Rattle.wire_fields.specs.Shape.{Owns, FieldKind}

-- ---- records

-- the records that are picked, in order
abbrev pub picked : Owns → Fields → Fields
picked owns none = none
picked owns (field n p rest) = cond (owns n p) (field n p (picked owns rest)) (picked owns rest)

-- all others, in order
abbrev pub others : Owns → Fields → Fields
others owns none = none
others owns (field n p rest) = cond (owns n p) (others owns rest) (field n p (others owns rest))

-- records in the place of those that are picked, behind all others
abbrev pub replaced : Owns → Fields → Fields → Fields
replaced owns fs more = joined (others owns fs) more

-- the records of an extension: those of its number, or where it names wire types, those of its
-- number that have one of these
abbrev pub is_own : ℕ → Option OwnTypes → Owns
is_own n None k p = k == n
is_own n (Some types) k p = k == n && has_type types (type_of p)

-- ---- values

-- the value that its own records make of the value of no records, for a charge within the limits
pub record IsValue {V : Type 0} (k : FieldKind V) (owns : Owns) (fs : Fields) (l : Limits)
    (c : Charge) (v : V) : Type 0 where
  pub folded : Folds k.takes k.default (picked owns fs) c v
  pub fits : Fits c l

-- there is no such value
abbrev pub NoValue : {V : Type 0} → FieldKind V → Owns → Fields → Limits → Type 0
NoValue {V} k owns fs l = (c : Charge) (v : V) → IsValue k owns fs l c v → ⊥

-- records that are spelled by the text of those of a value, within the limits
pub record Stores (rs : Records) (l : Limits) (fs : Fields) : Type 0 where
  pub short : text_size rs ≤ 2147483647
  pub spelled : Spells fs (text rs)
  pub fits : Fits (charge fs) l

-- there are no such records
abbrev pub NotStored : Records → Limits → Type 0
NotStored rs l = (fs : Fields) → Stores rs l fs → ⊥

-- ---- one record

-- the value takes one record, for a charge within the limits, and becomes z
pub record TakesOne {V : Type 0} (takes : Step V) (l : Limits) (n : ℕ) (p : Payload) (m : V)
    (c : Charge) (z : V) : Type 0 where
  pub step : takes m n p c z
  pub fits : Fits c l

-- it does not take it
abbrev pub TakesNone : {V : Type 0} → Step V → Limits → ℕ → Payload → V → Type 0
TakesNone {V} takes l n p m = (c : Charge) (z : V) → TakesOne takes l n p m c z → ⊥
