-- What stands on the wire for one value.
use Rattle.std.specs.Prelude.{◌≡◌, ℕ, List}
use Rattle.wire_base.specs.Read.{Reads}
use Rattle.wire_scalar.specs.ValueMap.{ValueMap}

-- a text of a number stands at the front of old, the value is what the map reads from it, and new
-- is what follows
pub record ReadsValue {T : Type 0} (IsText : ℕ → List ℕ → Type 0) (map : ValueMap T)
    (old : List ℕ) (value : T) (new : List ℕ) : Type 0 where
  pub number : ℕ
  pub read : Reads old (IsText number) new
  pub is : value ≡ map.dec number
