-- The text of paths, where they have one.
use Rattle.std.proofs.Common.{ℕ, Bool, true, false, not, ◌&&◌, ◌==◌, List, [], ◌∷◌, ◌++◌}
use Rattle.std.specs.Prelude.{if◌then◌else◌}
use Rattle.std.specs.Char.{is_ascii_lowercase, is_ascii_uppercase, to_ascii_uppercase}

-- an underscore goes, and raises the letter behind it
abbrev pub camel : Bool → List ℕ → List ℕ
camel raised [] = []
camel raised (c ∷ rest) =
    if raised then to_ascii_uppercase c ∷ camel false rest
    else if c == 95 then camel true rest
    else c ∷ camel false rest

-- paths behind others
abbrev pub camel_behind : List (List ℕ) → List ℕ
camel_behind [] = []
camel_behind (path ∷ paths) = 44 ∷ (camel false path ++ camel_behind paths)

abbrev pub camel_text : List (List ℕ) → List ℕ
camel_text [] = []
camel_text (path ∷ paths) = camel false path ++ camel_behind paths

-- no comma, no capital, and behind each underscore a small letter
abbrev pub has_text : Bool → List ℕ → Bool
has_text raised [] = not raised
has_text raised (c ∷ rest) =
    if raised then is_ascii_lowercase c && has_text false rest
    else if c == 95 then has_text true rest
    else not (c == 44) && (not (is_ascii_uppercase c) && has_text false rest)

-- so each path, and none is empty
abbrev pub have_text : List (List ℕ) → Bool
have_text [] = true
have_text ([] ∷ paths) = false
have_text ((c ∷ path) ∷ paths) = has_text false (c ∷ path) && have_text paths
