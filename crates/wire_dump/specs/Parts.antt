-- What is put goes out in parts.
use Rattle.std.specs.Prelude.{ℕ, List, ◌++◌, Option}
use Rattle.std.specs.Io.KnownBytes.{Appends}

-- Some bytes went out, where the writer tells what it holds, and together with those that are left
-- they are what is told of them.
abbrev pub InParts : Option (List ℕ) → Option (List ℕ) → List ℕ → (List ℕ → Type 0) → Type 0
InParts held_before held left Are =
    (sent : List ℕ) × Appends held_before held sent × Are (sent ++ left)
