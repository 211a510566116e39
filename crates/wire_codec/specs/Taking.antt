-- What a message type takes from the front of bytes, within limits.
use Rattle.std.specs.Prelude.{◌≡◌, ℕ, List, []}
use Rattle.wire_base.specs.declared.tag.WireType.{WireType}
use Rattle.wire_base.specs.Ending.{Ending, by_input}
use Rattle.wire_base.specs.Field.{Payload, Fields}
use Rattle.wire_base.specs.Limits.{Limits, Charge, left_after}
use Rattle.wire_base.specs.Taken.{TakesPayload, TakesUntil}
use Rattle.wire_codec.specs.Folds.{Step, Folds}

-- Behind a tag (n, w) a payload stands at the front of old. The value m takes its record, is
-- charged c for it, which is within the limits, and becomes z; new is what follows the payload.
pub record TakesRecord {V : Type 0} (takes : Step V) (l : Limits) (n : ℕ) (w : WireType) (m : V)
    (old : List ℕ) (c : Charge) (z : V) (new : List ℕ) : Type 0 where
  pub payload : Payload
  pub read : TakesPayload c l n w payload old new
  pub step : takes m n payload c z

-- Records stand at the front of old, up to the end of their list, as `ending` has it. The value m
-- takes them one after another, is charged c for them, which is within the limits, and becomes z;
-- new is what follows the end.
pub record TakesList {V : Type 0} (takes : Step V) (l : Limits) (ending : Ending) (m : V)
    (old : List ℕ) (c : Charge) (z : V) (new : List ℕ) : Type 0 where
  pub fields : Fields
  pub read : TakesUntil c l ending fields old new
  pub folded : Folds takes m fields c z

-- nothing is taken: there are no charge, value and rest for it
abbrev pub NotTaken : {V : Type 0} → (Charge → V → List ℕ → Type 0) → Type 0
NotTaken {V} Taken = (c : Charge) (z : V) (new : List ℕ) → Taken c z new → ⊥

-- the value m takes all of the bytes, is charged c for them, and becomes z
abbrev pub TakesAll : {V : Type 0} → Step V → Limits → V → List ℕ → Charge → V → Type 0
TakesAll takes l m bytes c z = TakesList takes l by_input m bytes c z []

-- the value m takes all of the bytes within the limits, and becomes z
abbrev pub Decodes : {V : Type 0} → Step V → Limits → V → List ℕ → V → Type 0
Decodes takes l m bytes z = (c : Charge) × TakesAll takes l m bytes c z

-- the value m does not take all of the bytes within the limits
abbrev pub NotDecoded : {V : Type 0} → Step V → Limits → V → List ℕ → Type 0
NotDecoded {V} takes l m bytes = (z : V) → Decodes takes l m bytes z → ⊥

-- something is taken for some charge: `after` is `before` with its counts lowered by that, and its
-- depth as it was
pub record IsCharged (before after : Limits) (Taken : Charge → Type 0) : Type 0 where
  pub charge : Charge
  pub taken : Taken charge
  pub left : after ≡ left_after before charge
