-- Numbers: what stands behind one, or the place where none goes on.
use Rattle.std.specs.Prelude.{◌≡◌, ℕ, Bool, ◌||◌, ◌==◌, List, [], ◌++◌, drop, if◌then◌else◌}
use Rattle.std.specs.Char.{is_ascii_digit}
use Rattle.std.specs.Prelude.{Result, Ok, Err}
use Rattle.wire_json.specs.Bytes.{◌>>=◌, begins, is_byte, past, past_one}

-- `e` or `E`
abbrev pub is_exponent : ℕ → Bool
is_exponent c = c == 101 || c == 69

-- `+` or `-`
abbrev pub is_sign : ℕ → Bool
is_sign c = c == 43 || c == 45

-- a character of numbers
abbrev pub is_of_number : ℕ → Bool
is_of_number c = is_ascii_digit c || (c == 46 || (is_exponent c || is_sign c))

-- a digit, and all that follow it
abbrev pub digits_end : List ℕ → Result (List ℕ) (List ℕ)
digits_end old = if begins is_ascii_digit old then Ok (past is_ascii_digit old) else Err old

-- a zero alone, or digits
abbrev pub integer_end : List ℕ → Result (List ℕ) (List ℕ)
integer_end old = if begins (is_byte 48) old then Ok (drop 1 old) else digits_end old

-- a point and digits, where a point stands
abbrev pub fraction_end : List ℕ → Result (List ℕ) (List ℕ)
fraction_end old = if begins (is_byte 46) old then digits_end (drop 1 old) else Ok old

-- `e`, a sign where one stands, and digits, where an `e` stands
abbrev pub exponent_end : List ℕ → Result (List ℕ) (List ℕ)
exponent_end old =
    if begins is_exponent old then digits_end (past_one is_sign (drop 1 old)) else Ok old

-- no character of numbers goes on here
abbrev pub apart : List ℕ → Result (List ℕ) (List ℕ)
apart old = if begins is_of_number old then Err old else Ok old

-- a minus sign where one stands, an integer, a fraction and an exponent, and then something else
abbrev pub number_end : List ℕ → Result (List ℕ) (List ℕ)
number_end old =
    integer_end (past_one (is_byte 45) old) >>= fraction_end >>= exponent_end >>= apart

-- a number is read by its text
pub record ReadsNumeral (text old new : List ℕ) : Type 0 where
  pub parts : old ≡ text ++ new
  pub ends : number_end old ≡ Ok new

-- the text is a number, whole
abbrev pub SpellsNumber : List ℕ → Type 0
SpellsNumber text = number_end text ≡ Ok []
