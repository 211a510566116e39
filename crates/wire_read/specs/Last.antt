-- The last record of a field number among those of a list, those nested in groups left out.
use Rattle.std.specs.Prelude.{◌≡◌, ◌≢◌, ℕ, List, Option, Some, None}
use Rattle.wire_base.specs.Field.{Payload, Fields, none, field, joined}
use Rattle.wire_base.specs.Read.{Reads}
use Rattle.wire_base.specs.Spells.{Spells, IsPayload}
use Rattle.wire_base.specs.Tag.{IsTagSpelling}
use Rattle.wire_read.specs.declared.last.Place.{Place}
use Rattle.wire_read.specs.Reading.{place_of}

-- no record has the number
abbrev pub Lacks : ℕ → Fields → Type 0
Lacks n none = Unit {0}
Lacks n (field m p fs) = (m ≢ n) × Lacks n fs

-- the records fs stand at the front of all, and rest is what follows; of those that have the number
-- the last stands at this place
pub record IsLast (n : ℕ) (fs : Fields) (all rest : List ℕ) (place : Place) : Type 0 where
  pub before : Fields
  pub payload : Payload
  pub after : Fields
  pub parts : fs ≡ joined before (field n payload after)
  pub here : List ℕ
  pub behind : List ℕ
  pub next : List ℕ
  pub front : Reads all (Spells before) here
  pub tag : Reads here (IsTagSpelling n place.wire_type) behind
  pub taken : Reads behind (IsPayload n place.wire_type payload) next
  pub others : Reads next (Spells after) rest
  pub lacks : Lacks n after
  pub start : place.start ≡ place_of all here
  pub value : place.payload ≡ place_of all behind
  pub end : place.end ≡ place_of all next

-- the place of the last, or none has the number
abbrev pub FoundLast : ℕ → Fields → List ℕ → List ℕ → Option Place → Type 0
FoundLast n fs all rest None = Lacks n fs
FoundLast n fs all rest (Some place) = IsLast n fs all rest place
