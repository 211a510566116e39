-- Which values the other scalars of JSON are read as.
use Rattle.std.specs.Prelude.{◌≡◌, ◌⊎◌, ℕ, Bool, List, IsErr, Ok}
use Rattle.base64.specs.Engines.{standard_pad_indifferent, url_safe_pad_indifferent}
use Rattle.base64.specs.GeneralPurpose.{decode_of}
use Rattle.wire_json.specs.Json.{Json, null, boolean, number, string, array, object}

abbrev pub MeansBool : Json → Bool → Type 0
MeansBool (boolean b) value = b ≡ value
MeansBool null value = ⊥
MeansBool (number text) value = ⊥
MeansBool (string bytes) value = ⊥
MeansBool (array es) value = ⊥
MeansBool (object ms) value = ⊥

-- the bytes of a string
abbrev pub MeansString : Json → List ℕ → Type 0
MeansString (string bytes) value = bytes ≡ value
MeansString null value = ⊥
MeansString (boolean b) value = ⊥
MeansString (number text) value = ⊥
MeansString (array es) value = ⊥
MeansString (object ms) value = ⊥

-- Base64 of the standard alphabet, padded or not, or else of that for URLs.
abbrev pub MeansBase64 : List ℕ → List ℕ → Type 0
MeansBase64 text value =
    (decode_of standard_pad_indifferent text ≡ Ok value)
    ⊎ (IsErr (decode_of standard_pad_indifferent text)
    × (decode_of url_safe_pad_indifferent text ≡ Ok value))

abbrev pub MeansBytes : Json → List ℕ → Type 0
MeansBytes json value = (text : List ℕ) × MeansString json text × MeansBase64 text value
