-- The trees that are written of values.
use Rattle.std.specs.Prelude.{◌≡◌, ℕ, true, false, ℤ, List, codes, Some, decimal}
use Rattle.std.specs.Float.{Float, Format, nan, inf, fin}
use Rattle.std.specs.Float.Parse.{parse_float}
use Rattle.std.specs.Fmt.{signed_decimal}
use Rattle.base64.specs.Engines.{standard}
use Rattle.base64.specs.GeneralPurpose.{encode_of}
use Rattle.wire_json.specs.Json.{Json, number, string}
use Rattle.wire_json.specs.Number.{SpellsNumber}

-- 32 bits are written as a number
abbrev pub short_signed_tree : ℤ → Json
short_signed_tree z = number (signed_decimal z)

abbrev pub short_unsigned_tree : ℕ → Json
short_unsigned_tree n = number (decimal n)

-- 64 bits as a string, since many readers of JSON hold numbers as doubles
abbrev pub long_signed_tree : ℤ → Json
long_signed_tree z = string (signed_decimal z)

abbrev pub long_unsigned_tree : ℕ → Json
long_unsigned_tree n = string (decimal n)

-- base64 of the standard alphabet, padded
abbrev pub bytes_tree : List ℕ → Json
bytes_tree bytes = string (encode_of standard bytes)

-- A finite float is a number that reads back as it, and any other a word.
abbrev pub IsFloatTree : Format → Float → Json → Type 0
IsFloatTree f nan json = json ≡ string (codes "NaN")
IsFloatTree f (inf false) json = json ≡ string (codes "Infinity")
IsFloatTree f (inf true) json = json ≡ string (codes "-Infinity")
IsFloatTree f (fin negative m e) json =
    (text : List ℕ) × (json ≡ number text) × SpellsNumber text
    × (parse_float f text ≡ Some (fin negative m e))
