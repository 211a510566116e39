-- Strings and bytes as scalar types.
use Rattle.std.proofs.Common.{◌≡◌}
use Rattle.std.specs.Prelude.{ℕ, List, [], length, ◌==◌, IsUtf8}
use Rattle.wire_codec.specs.Field.{Payload, bytes}
use Rattle.wire_fields.specs.Scalar.{ScalarType}

-- the payload is these bytes, and of them this holds
pub record SetsBytes (IsText : List ℕ → Type 0) (p : Payload) (b : List ℕ) : Type 0 where
  pub has : p ≡ bytes b
  pub holds : IsText b

pub one_bytes : (p : Payload) (a b : List ℕ) → p ≡ bytes a → p ≡ bytes b → a ≡ b
one_bytes p a b h k = cc

abbrev pub length_delimited : (List ℕ → Type 0) → ScalarType (List ℕ)
length_delimited IsText = record {
  default = [];
  is_default = λ b. length b == 0;
  payload = bytes;
  Sets = SetsBytes IsText;
  one = λ p a b h k. one_bytes p a b h.has k.has;
}

-- a string, which has to be UTF-8
abbrev pub string : ScalarType (List ℕ)
string = length_delimited IsUtf8

-- any bytes
abbrev pub any_bytes : ScalarType (List ℕ)
any_bytes = length_delimited (λ b. Unit {0})
