-- Varints: numbers to the base 128, the lowest digit first. Every byte but the last has the
-- continuation bit, 128.
use Rattle.std.specs.Prelude.{◌≡◌, ℕ, zero, suc, ◌+◌, ◌*◌, ◌/◌, ◌%◌, ◌^◌, ◌<◌, ◌≤◌, List, [], ◌∷◌, ◌++◌, length, replicate, nat_lt, if◌then◌else◌}
use Rattle.wire_base.specs.declared.error.DecodeError.{DecodeError}
use Rattle.wire_base.specs.declared.error.DecodeError.TheVariants.{UnexpectedEof, VarintTooLong}

-- the sum of (byte i modulo 128) times 128 ^ i
abbrev pub varint_value : List ℕ → ℕ
varint_value [] = 0
varint_value (b ∷ bs) = b % 128 + 128 * varint_value bs

-- every byte has the continuation bit
abbrev pub AllContinue : List ℕ → Type 0
AllContinue [] = Unit {0}
AllContinue (b ∷ bs) = (128 ≤ b) × AllContinue bs

-- at least one byte: every byte has the continuation bit, but for the last, which lacks it
abbrev pub IsEnded : List ℕ → Type 0
IsEnded [] = ⊥
IsEnded (b ∷ []) = b < 128
IsEnded (b ∷ c ∷ bs) = (128 ≤ b) × IsEnded (c ∷ bs)

-- the text is a varint of v, padded with zeros or not
pub record IsSpelling (v : ℕ) (text : List ℕ) : Type 0 where
  pub ended : IsEnded text
  pub at_most_ten : length text ≤ 10
  pub value : varint_value text ≡ v
  pub fits : v < 2 ^ 64

-- the digits of v to the base 128, where `more` digits may follow the first
abbrev pub digits : ℕ → ℕ → List ℕ
digits zero v = v ∷ []
digits (suc more) v = if nat_lt v 128 then v ∷ [] else (v % 128 + 128) ∷ digits more (v / 128)

-- the spelling of v of least length; ten bytes of 255 for a number that has none
unfoldable pub shortest_varint : ℕ → List ℕ
shortest_varint v = if nat_lt v (2 ^ 64) then digits 9 v else replicate 10 255

-- no varint stands at the front of these bytes, with the error that says why
pub data VarintFault : List ℕ → DecodeError → Type 0 where
  -- the bytes end before the varint does
  cut_short : {bytes : List ℕ} → AllContinue bytes → length bytes < 10
      → VarintFault bytes UnexpectedEof
  -- nine bytes continue, and the tenth is not the last or has a bit beyond 64
  too_long : {bytes : List ℕ} (front : List ℕ) (tenth : ℕ) (rest : List ℕ)
      → bytes ≡ front ++ tenth ∷ rest
      → AllContinue front → length front ≡ 9 → 2 ≤ tenth → VarintFault bytes VarintTooLong
