-- What holds of masks.
use Rattle.std.specs.Prelude.{◌≡◌, true, IsUtf8, List, ℕ}
use Rattle.std.specs.List.{All}
use Rattle.wire_json.specs.Json.{Json, string}
use Rattle.wire_well_known_json.specs.Camel.{camel_text, have_text}
use Rattle.wire_well_known_json.specs.Masks.{IsMaskTree}

-- Paths of UTF-8 have a text where each has one, and others have none; a text of paths is this one.
pub record HasMaskText (paths : List (List ℕ)) : Type 0 where
  pub written : All IsUtf8 paths → have_text paths ≡ true
      → IsMaskTree paths (string (camel_text paths))
  pub alone : (json : Json) → IsMaskTree paths json
      → (have_text paths ≡ true) × (json ≡ string (camel_text paths))

abbrev pub MasksHaveTexts : Type 0
MasksHaveTexts = (paths : List (List ℕ)) → HasMaskText paths
