-- The lines of a dump, as ASCII. Each line is indented by two spaces a level.
use Rattle.std.specs.Prelude.{ℕ, zero, suc, ◌+◌, ◌*◌, ◌/◌, ◌%◌, List, [], ◌∷◌, ◌++◌, codes, decimal, replicate, nat_eq, nat_lt, nat_le, if◌then◌else◌}

abbrev pub indented : ℕ → List ℕ
indented level = replicate (2 * level) 32

-- ---- numbers

-- 0 to 9, and then a to f
abbrev pub hexadecimal_digit : ℕ → ℕ
hexadecimal_digit d = if nat_lt d 10 then 48 + d else 87 + d

-- so many digits to the base 16, the highest first
abbrev pub hexadecimal : ℕ → ℕ → List ℕ
hexadecimal zero v = []
hexadecimal (suc width) v = hexadecimal width (v / 16) ++ hexadecimal_digit (v % 16) ∷ []

-- ---- strings

-- a backslash and three digits to the base 8
abbrev pub octal : ℕ → List ℕ
octal b = 92 ∷ (48 + b / 64) ∷ (48 + b / 8 % 8) ∷ (48 + b % 8) ∷ []

-- what a byte is between double quotes
abbrev pub escaped_byte : ℕ → List ℕ
escaped_byte b =
    if nat_eq b 10 then codes "\\n"
    else (if nat_eq b 13 then codes "\\r"
    else (if nat_eq b 9 then codes "\\t"
    else (if nat_eq b 34 then codes "\\\""
    else (if nat_eq b 39 then codes "\\'"
    else (if nat_eq b 92 then codes "\\\\"
    else (if nat_lt b 32 then octal b
    else (if nat_le 127 b then octal b else b ∷ [])))))))

abbrev pub escaped : List ℕ → List ℕ
escaped [] = []
escaped (b ∷ bs) = escaped_byte b ++ escaped bs

-- ---- lines

-- the line of a record with this number
abbrev pub line : ℕ → ℕ → List ℕ → List ℕ
line level n rest = indented level ++ (decimal n ++ (rest ++ codes "\n"))

abbrev pub number_line : ℕ → ℕ → ℕ → List ℕ
number_line level n v = line level n (codes ": " ++ decimal v)

abbrev pub fixed_line : ℕ → ℕ → ℕ → ℕ → List ℕ
fixed_line level n width v = line level n (codes ": 0x" ++ hexadecimal width v)

abbrev pub string_line : ℕ → ℕ → List ℕ → List ℕ
string_line level n bytes = line level n (codes ": \"" ++ (escaped bytes ++ codes "\""))

-- the line before what stands in a group or a message, and the line behind it
abbrev pub opening : ℕ → ℕ → List ℕ
opening level n = line level n (codes " {")

abbrev pub end_line : ℕ → List ℕ
end_line level = indented level ++ codes "}\n"
