-- Messages inside other bytes: behind a length, or one level down.
use Rattle.std.specs.Prelude.{ℕ, ◌<◌, ◌≤◌, List, length}
use Rattle.wire_base.specs.Delimited.{IsDelimited}
use Rattle.wire_base.specs.Ending.{by_tag}
use Rattle.wire_base.specs.Limits.{Limits, Charge, inner}
use Rattle.wire_base.specs.Read.{Reads}
use Rattle.wire_codec.specs.Folds.{Step}
use Rattle.wire_codec.specs.Taking.{TakesList, TakesAll}

-- A length that is at most `most` and a payload of that length stand at the front of old. The value
-- m takes all of the payload, is charged c for it, which is within the limits, and becomes z; new
-- is what follows the payload.
pub record TakesDelimited {V : Type 0} (takes : Step V) (l : Limits) (most : ℕ) (m : V)
    (old : List ℕ) (c : Charge) (z : V) (new : List ℕ) : Type 0 where
  pub payload : List ℕ
  pub read : Reads old (IsDelimited payload) new
  pub short : length payload ≤ most
  pub taken : TakesAll takes l m payload c z

-- there is a level, and this is taken within what is left one level down
pub record OneLevelDown (l : Limits) (Taken : Limits → Type 0) : Type 0 where
  pub level : 0 < l.depth
  pub taken : Taken (inner l)

-- an embedded message: a length and a payload of at most 2147483647 bytes, one level down; c is the
-- charge of the payload, without that level
abbrev pub TakesEmbedded : {V : Type 0} → Step V → Limits → V → List ℕ → Charge → V → List ℕ
    → Type 0
TakesEmbedded takes l m old c z new =
    OneLevelDown l (λ k. TakesDelimited takes k 2147483647 m old c z new)

-- the body of a group of this number, and its end tag, one level down; c is the charge of the body,
-- without that level
abbrev pub TakesGroup : {V : Type 0} → Step V → Limits → ℕ → V → List ℕ → Charge → V → List ℕ
    → Type 0
TakesGroup takes l n m old c z new =
    OneLevelDown l (λ k. TakesList takes k (by_tag n) m old c z new)
