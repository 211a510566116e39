-- Field masks: what a text stands for, and what is written of one.
use Rattle.std.specs.Prelude.{◌≡◌, ℕ, Bool, true, false, ◌&&◌, ◌==◌, not, List, [], ◌∷◌, ◌++◌, Option, Some, None, if◌then◌else◌, IsUtf8}
use Rattle.std.specs.Char.{is_ascii_uppercase, to_ascii_lowercase}
use Rattle.wire_json.specs.Json.{Json, null, boolean, number, string, array, object}

-- a capital stands for an underscore and its small letter
abbrev pub path_bytes : ℕ → List ℕ
path_bytes c = if is_ascii_uppercase c then 95 ∷ to_ascii_lowercase c ∷ [] else c ∷ []

-- the first path with bytes before it
abbrev pub before_first : List ℕ → List (List ℕ) → List (List ℕ)
before_first bytes [] = []
before_first bytes (path ∷ paths) = (bytes ++ path) ∷ paths

-- the paths between the commas of a text, one at least
abbrev pub paths_of : List ℕ → List (List ℕ)
paths_of [] = [] ∷ []
paths_of (c ∷ rest) =
    if c == 44 then [] ∷ paths_of rest else before_first (path_bytes c) (paths_of rest)

abbrev pub has_no_underscore : List ℕ → Bool
has_no_underscore [] = true
has_no_underscore (c ∷ rest) = not (c == 95) && has_no_underscore rest

abbrev pub none_is_empty : List (List ℕ) → Bool
none_is_empty [] = true
none_is_empty ([] ∷ paths) = false
none_is_empty ((c ∷ path) ∷ paths) = none_is_empty paths

-- The paths of a text: none of no text, and else those between its commas, in which no underscore
-- stands, and none of which is empty.
abbrev pub mask_of : List ℕ → Option (List (List ℕ))
mask_of [] = Some []
mask_of (c ∷ rest) =
    if has_no_underscore (c ∷ rest) && none_is_empty (paths_of (c ∷ rest))
    then Some (paths_of (c ∷ rest)) else None

abbrev pub MeansMask : Json → List (List ℕ) → Type 0
MeansMask (string bytes) paths = mask_of bytes ≡ Some paths
MeansMask null paths = ⊥
MeansMask (boolean b) paths = ⊥
MeansMask (number text) paths = ⊥
MeansMask (array es) paths = ⊥
MeansMask (object ms) paths = ⊥

-- what is written of a mask: the string that stands for it, where there is one
abbrev pub IsMaskTree : List (List ℕ) → Json → Type 0
IsMaskTree paths json =
    (text : List ℕ) × IsUtf8 text × (mask_of text ≡ Some paths) × (json ≡ string text)
