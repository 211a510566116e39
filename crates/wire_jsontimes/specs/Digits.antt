-- Digits at the front of a text.
use Rattle.std.specs.Prelude.{ℕ, zero, suc, ◌+◌, ◌*◌, ◌/◌, ◌%◌, Bool, nat_lt, ◌==◌, List, [], ◌∷◌, ◌++◌, drop, Option, Some, None, if◌then◌else◌}
use Rattle.std.specs.Char.{digit_char, digit_value}
use Rattle.wire_json.specs.Bytes.{begins, is_byte}

abbrev pub is_digit : ℕ → Bool
is_digit c = nat_lt (digit_value c) 10

-- a number, and the text behind it
abbrev pub Front : Type 0
Front = ℕ × List ℕ

-- a digit more, where one stands
abbrev pub digit_more : Front → Front
digit_more (n, []) = (n, [])
digit_more (n, c ∷ rest) =
    if is_digit c then (n * 10 + digit_value c, rest) else (n, c ∷ rest)

-- a place of a fraction more, which is zero where no digit stands
abbrev pub place_more : Front → Front
place_more (n, []) = (n * 10, [])
place_more (n, c ∷ rest) =
    if is_digit c then (n * 10 + digit_value c, rest) else (n * 10, c ∷ rest)

abbrev pub times : ℕ → (Front → Front) → Front → Front
times zero f front = front
times (suc k) f front = times k f (f front)

-- a zero alone, or at most twelve digits of which the first is none
abbrev pub whole_at : List ℕ → Option Front
whole_at [] = None
whole_at (c ∷ rest) =
    if c == 48 then Some (0, rest)
    else if is_digit c then Some (times 12 digit_more (0, c ∷ rest))
    else None

-- the nanoseconds of at least one digit and at most nine
abbrev pub nanos_at : List ℕ → Option Front
nanos_at text = if begins is_digit text then Some (times 9 place_more (0, text)) else None

-- the nanoseconds behind a point, where one stands
abbrev pub fraction_at : List ℕ → Option Front
fraction_at text = if begins (is_byte 46) text then nanos_at (drop 1 text) else Some (0, text)

-- ---- what is written

-- a number below 1000 by three digits
abbrev pub three : ℕ → List ℕ
three n =
    digit_char (n / 100 % 10) ∷ digit_char (n / 10 % 10) ∷ digit_char (n % 10) ∷ []

-- the nanoseconds by three, six or nine digits, as few as do
abbrev pub places_text : ℕ → List ℕ
places_text n =
    if n % 1_000_000 == 0 then three (n / 1_000_000)
    else if n % 1000 == 0 then three (n / 1_000_000) ++ three (n / 1000 % 1000)
    else three (n / 1_000_000) ++ (three (n / 1000 % 1000) ++ three (n % 1000))

-- a point and the nanoseconds behind it, and nothing where there are none
abbrev pub fraction_text : ℕ → List ℕ
fraction_text n = if n == 0 then [] else 46 ∷ places_text n
