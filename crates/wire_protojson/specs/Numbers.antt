-- The texts of numbers: what stands for one in JSON, and what it is worth.
use Rattle.std.specs.Prelude.{◌≡◌, ◌⊎◌, ℕ, ◌<◌, ◌^◌, Bool, IsTrue, true, false, ℤ, pos, FitsSigned, List, codes, Some}
use Rattle.std.specs.Float.{Float, Format, float_is_finite, nan, inf}
use Rattle.std.specs.Float.Parse.{parse_float}
use Rattle.std.specs.Int.{Width}
use Rattle.fast_float.specs.Text.{Parts, scan, with_sign, IsWhole, whole_of}
use Rattle.wire_json.specs.Bytes.{begins, is_byte, past_one}
use Rattle.wire_json.specs.Json.{Json, null, boolean, number, string, array, object}
use Rattle.wire_json.specs.Number.{SpellsNumber}

-- the text of a number, which may stand in a string, with nothing beside it
abbrev pub HasNumber : Json → List ℕ → Type 0
HasNumber null text = ⊥
HasNumber (boolean b) text = ⊥
HasNumber (number spelled) text = spelled ≡ text
HasNumber (string bytes) text = (bytes ≡ text) × SpellsNumber text
HasNumber (array es) text = ⊥
HasNumber (object ms) text = ⊥

abbrev pub is_negative : List ℕ → Bool
is_negative text = begins (is_byte 45) text

-- the digits and the exponent behind a minus sign
abbrev pub size_of_number : List ℕ → Parts
size_of_number text = scan (past_one (is_byte 45) text)

-- the number without what stands behind its point, once the exponent has moved that
abbrev pub whole_number : List ℕ → ℤ
whole_number text = with_sign (is_negative text) (whole_of (size_of_number text))

-- nothing but zeros stands behind its point, as in `1`, `1.0`, `1e3` and `10e-1`
abbrev pub IsWholeNumber : List ℕ → Type 0
IsWholeNumber text = IsWhole (size_of_number text)

-- a whole number of a signed type
abbrev pub MeansSigned : Width → Json → ℤ → Type 0
MeansSigned w json z =
    (text : List ℕ) × HasNumber json text × IsWholeNumber text × (whole_number text ≡ z)
    × FitsSigned w z

-- a whole number of an unsigned type of so many bits
abbrev pub MeansUnsigned : ℕ → Json → ℕ → Type 0
MeansUnsigned bits json n =
    (text : List ℕ) × HasNumber json text × IsWholeNumber text × (whole_number text ≡ pos n)
    × (n < 2 ^ bits)

-- the words for what is no finite number
abbrev pub MeansByWord : Json → Float → Type 0
MeansByWord (string bytes) x =
    ((bytes ≡ codes "NaN") × (x ≡ nan)) ⊎ ((bytes ≡ codes "Infinity") × (x ≡ inf false))
    ⊎ ((bytes ≡ codes "-Infinity") × (x ≡ inf true))
MeansByWord null x = ⊥
MeansByWord (boolean b) x = ⊥
MeansByWord (number text) x = ⊥
MeansByWord (array es) x = ⊥
MeansByWord (object ms) x = ⊥

-- the float nearest to a number, where that is finite
abbrev pub MeansByNumber : Format → Json → Float → Type 0
MeansByNumber f json x =
    (text : List ℕ) × HasNumber json text × (parse_float f text ≡ Some x)
    × IsTrue (float_is_finite x)

abbrev pub MeansFloat : Format → Json → Float → Type 0
MeansFloat f json x = MeansByWord json x ⊎ MeansByNumber f json x
