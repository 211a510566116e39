-- Strings: characters as they are, and escapes.
use Rattle.std.specs.Prelude.{◌≡◌, ◌≢◌, ◌⊎◌, ℕ, ◌+◌, ◌*◌, ◌≤◌, Bool, true, ◌&&◌, ◌==◌, nat_lt, List, [], ◌∷◌, ◌++◌, drop, slice_index, if◌then◌else◌}
use Rattle.std.specs.Prelude.{Option, Some, None, Result, Ok, Err, encode_utf8, encode_utf8_all}
use Rattle.std.specs.Char.{IsScalar, digit_value}
use Rattle.std.specs.Char.Utf16.{is_low_surrogate, is_high_surrogate, surrogate_pair_char}
use Rattle.wire_json.specs.declared.fault.FaultKind.{FaultKind}
use Rattle.wire_json.specs.declared.fault.FaultKind.TheVariants.{Syntax, LoneSurrogate}
use Rattle.wire_json.specs.Bytes.{◌>>=◌, begins, is_byte, past_space, word_end}

-- a character that stands in a string as it is
pub record IsUnescaped (c : ℕ) : Type 0 where
  pub scalar : IsScalar c
  pub no_control : 32 ≤ c
  pub no_quote : c ≢ 34
  pub no_backslash : c ≢ 92

-- such a character stands here
pub record ReadsUnescaped (c : ℕ) (old new : List ℕ) : Type 0 where
  pub unescaped : IsUnescaped c
  pub parts : old ≡ encode_utf8 c ++ new

-- what this letter stands for behind a backslash: itself for `"`, `\` and `/`, and a backspace,
-- form feed, line feed, carriage return and tab for `b`, `f`, `n`, `r` and `t`
abbrev pub letter_meaning : ℕ → Option ℕ
letter_meaning c =
    if c == 34 then Some 34
    else if c == 92 then Some 92
    else if c == 47 then Some 47
    else if c == 98 then Some 8
    else if c == 102 then Some 12
    else if c == 110 then Some 10
    else if c == 114 then Some 13
    else if c == 116 then Some 9
    else None

abbrev pub is_hex_digit : ℕ → Bool
is_hex_digit c = nat_lt (digit_value c) 16

-- What is read and what follows it, or a fault and where it stands.
abbrev pub Outcome : Type 0 → Type 0
Outcome A = Result (A × List ℕ) (FaultKind × List ℕ)

-- a hexadecimal digit more behind a number
abbrev pub hex_at : ℕ × List ℕ → Result (ℕ × List ℕ) (List ℕ)
hex_at front =
    if begins is_hex_digit front.1
    then Ok (front.0 * 16 + digit_value (slice_index front.1 0), drop 1 front.1)
    else Err front.1

-- `\u` and four hexadecimal digits: a unit of UTF-16
abbrev pub unit_at : List ℕ → Result (ℕ × List ℕ) (List ℕ)
unit_at old =
    word_end (92 ∷ 117 ∷ []) old
    >>= λ digits. hex_at (0, digits) >>= hex_at >>= hex_at >>= hex_at

-- the low surrogate behind a high one
abbrev pub pair_with : List ℕ → ℕ → Result (ℕ × List ℕ) (List ℕ) → Outcome ℕ
pair_with old high (Err left) = Err (LoneSurrogate, old)
pair_with old high (Ok low) =
    if is_high_surrogate high && is_low_surrogate low.0
    then Ok (surrogate_pair_char high low.0, low.1)
    else Err (LoneSurrogate, old)

-- a unit that is a character, or a pair of them; a surrogate that is in no pair is told at its
-- backslash
abbrev pub character_of : List ℕ → Result (ℕ × List ℕ) (List ℕ) → Outcome ℕ
character_of old (Err left) = Err (Syntax, left)
character_of old (Ok unit) =
    if is_high_surrogate unit.0 then pair_with old unit.0 (unit_at unit.1)
    else if is_low_surrogate unit.0 then Err (LoneSurrogate, old)
    else Ok unit

abbrev pub letter_of : Option ℕ → List ℕ → Outcome ℕ
letter_of None here = Err (Syntax, here)
letter_of (Some c) here = Ok (c, drop 1 here)

-- the character behind a backslash that is no unit
abbrev pub letter_at : List ℕ → Outcome ℕ
letter_at [] = Err (Syntax, [])
letter_at (c ∷ rest) = letter_of (letter_meaning c) (c ∷ rest)

-- the character that the escape at the front stands for
abbrev pub escape_at : List ℕ → Outcome ℕ
escape_at old =
    if begins (is_byte 117) (drop 1 old) then character_of old (unit_at old)
    else letter_at (drop 1 old)

-- an escape is read, from its backslash on
pub record ReadsEscape (c : ℕ) (old new : List ℕ) : Type 0 where
  pub backslash : begins (is_byte 92) old ≡ true
  pub escape : escape_at old ≡ Ok (c, new)

-- a character as it is, or an escape
abbrev pub ReadsChar : ℕ → List ℕ → List ℕ → Type 0
ReadsChar c old new = ReadsUnescaped c old new ⊎ ReadsEscape c old new

-- the characters up to the closing quotation mark
abbrev pub ReadsChars : List ℕ → List ℕ → List ℕ → Type 0
ReadsChars [] old new = old ≡ 34 ∷ new
ReadsChars (c ∷ cs) old new = (rest : List ℕ) × ReadsChar c old rest × ReadsChars cs rest new

-- the bytes of a string are read between its quotation marks
pub record ReadsString (bytes old new : List ℕ) : Type 0 where
  pub inside : List ℕ
  pub opens : old ≡ 34 ∷ inside
  pub chars : List ℕ
  pub reads : ReadsChars chars inside new
  pub bytes_are : bytes ≡ encode_utf8_all chars

-- the name of a member, and a colon with white space round it
pub record ReadsName (name old new : List ℕ) : Type 0 where
  pub behind : List ℕ
  pub reads : ReadsString name old behind
  pub value : List ℕ
  pub colon : past_space behind ≡ 58 ∷ value
  pub value_is : new ≡ past_space value
