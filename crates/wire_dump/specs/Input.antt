-- What text is read as.
use Rattle.std.specs.Prelude.{ℕ, List, [], ◌∷◌, if◌then◌else◌}
use Rattle.std.specs.Char.{is_ascii_whitespace}

-- text without its white space
abbrev pub compact : List ℕ → List ℕ
compact [] = []
compact (b ∷ text) = if is_ascii_whitespace b then compact text else b ∷ compact text
