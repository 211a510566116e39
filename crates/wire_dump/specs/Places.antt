-- Lines, and the bytes that they are of. The bytes of one line follow those of the line before it.
use Rattle.std.specs.Prelude.{ℕ, ◌+◌, List, [], ◌∷◌, ◌++◌, length, codes, decimal, Bool, true, false}

-- a line, and how many bytes it is of
pub record Line : Type 0 where
  pub width : ℕ
  pub text : List ℕ

-- one line of these bytes
abbrev pub line_of : List ℕ → List ℕ → List Line
line_of bytes text = record { width = length bytes; text = text } ∷ []

-- how many bytes all of the lines are of
abbrev pub all_width : List Line → ℕ
all_width [] = 0
all_width (l ∷ lines) = l.width + all_width lines

-- what stands before a line of the bytes from the first place to before the second: these places,
-- where they are shown
abbrev pub range_text : Bool → ℕ → ℕ → List ℕ
range_text false start end = []
range_text true start end = decimal start ++ (codes ".." ++ (decimal end ++ codes "  "))

-- the text of lines of the bytes from this place
abbrev pub printed : Bool → ℕ → List Line → List ℕ
printed offsets place [] = []
printed offsets place (l ∷ lines) =
    range_text offsets place (place + l.width)
    ++ (l.text ++ printed offsets (place + l.width) lines)
