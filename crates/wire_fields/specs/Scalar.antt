-- Scalar types: values of which each stands in one record, as numbers, strings and bytes do.
use Rattle.std.specs.Prelude.{◌≡◌, ℕ, Bool, List}
use Rattle.wire_codec.specs.Field.{Payload}
use Rattle.wire_codec.specs.Read.{Reads}
use Rattle.wire_codec.specs.Records.{Records, none, field, of_payload}
use Rattle.wire_codec.specs.Spells.{IsPayload}
use Rattle.wire_codec.specs.WireType.{WireType}

-- the value of no record, and whether a value is that one; the payload that is written for a value;
-- and the value that a payload sets, of which there is one at most
pub record ScalarType (V : Type 0) : Type 1 where
  pub default : V
  pub is_default : V → Bool
  pub payload : V → Payload
  pub Sets : Payload → V → Type 0
  pub one : (p : Payload) (v w : V) → Sets p v → Sets p w → v ≡ w

-- the record of a value
abbrev pub scalar_record : {V : Type 0} → ScalarType V → ℕ → V → Records
scalar_record t n v = field n (of_payload (t.payload v)) none

-- behind a tag (n, w) a payload that sets this value stands at the front of old, and new is what
-- follows
pub record ReadsScalar {V : Type 0} (t : ScalarType V) (n : ℕ) (w : WireType) (v : V)
    (old new : List ℕ) : Type 0 where
  pub payload : Payload
  pub read : Reads old (IsPayload n w payload) new
  pub sets : t.Sets payload v

-- no such payload stands there, of whatever value
abbrev pub NoScalar : {V : Type 0} → ScalarType V → ℕ → WireType → List ℕ → Type 0
NoScalar {V} t n w old = (v : V) (new : List ℕ) → ReadsScalar t n w v old new → ⊥
