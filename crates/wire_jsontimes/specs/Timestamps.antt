-- Timestamps: what a text stands for, and what is written of one.
use Rattle.std.specs.Prelude.{◌≡◌, ℕ, suc, ◌+◌, ◌*◌, ◌/◌, ◌%◌, ◌<◌, Bool, true, false, ◌&&◌, ◌==◌, nat_lt, ℤ, pos, neg_ℤ, ◌+ℤ◌, ◌-ℤ◌, ◌*ℤ◌, ◌≤ℤ◌, int_le, List, [], ◌∷◌, ◌++◌, Option, Some, None, option_and_then, if◌then◌else◌}
use Rattle.std.specs.Char.{digit_char, digit_value}
use Rattle.jiff_core.specs.Calendar.{days_from_civil, days_in_month}
use Rattle.wire_json.specs.Json.{Json, null, boolean, number, string, array, object}
use Rattle.wire_jsontimes.specs.Digits.{Front, fraction_at, fraction_text, is_digit}
use Rattle.wire_jsontimes.specs.Durations.{signed}

-- a digit more
abbrev pub digit_at : Front → Option Front
digit_at (n, []) = None
digit_at (n, c ∷ rest) = if is_digit c then Some (n * 10 + digit_value c, rest) else None

abbrev pub two_more : Front → Option Front
two_more front = option_and_then digit_at (digit_at front)

-- this byte, behind a number
abbrev pub then_byte : ℕ → Front → Option Front
then_byte b (n, []) = None
then_byte b (n, c ∷ rest) = if c == b then Some (n, rest) else None

-- two digits and this byte, and four
abbrev pub two_then : ℕ → List ℕ → Option Front
two_then b text = option_and_then (then_byte b) (two_more (0, text))

abbrev pub four_then : ℕ → List ℕ → Option Front
four_then b text = option_and_then (then_byte b) (option_and_then two_more (two_more (0, text)))

-- the calendar has this day, in a year from 1 on
abbrev pub is_date : ℕ → ℕ → ℕ → Bool
is_date y m d =
    nat_lt 0 y && (nat_lt 0 m && (nat_lt m 13
    && (nat_lt 0 d && nat_lt d (suc (days_in_month (pos y) m)))))

-- a day, by its number from 1970 on, and what is left
abbrev pub date_of : ℕ → ℕ → ℕ → List ℕ → Option (ℤ × List ℕ)
date_of y m d rest = if is_date y m d then Some (days_from_civil (pos y) m d, rest) else None

abbrev pub date_at : List ℕ → Option (ℤ × List ℕ)
date_at text =
    option_and_then (λ y. option_and_then (λ m. option_and_then (λ d. date_of y.0 m.0 d.0 d.1)
    (two_then 84 m.1)) (two_then 45 y.1)) (four_then 45 text)

-- the seconds of a day
abbrev pub clock_of : ℕ → ℕ → ℕ → List ℕ → Option Front
clock_of h m s rest =
    if nat_lt h 24 && (nat_lt m 60 && nat_lt s 60) then Some (h * 3600 + m * 60 + s, rest) else None

abbrev pub clock_at : List ℕ → Option Front
clock_at text =
    option_and_then (λ h. option_and_then (λ m. option_and_then (λ s. clock_of h.0 m.0 s.0 s.1)
    (two_more (0, m.1))) (two_then 58 h.1)) (two_then 58 text)

abbrev pub is_empty : List ℕ → Bool
is_empty [] = true
is_empty (c ∷ rest) = false

-- hours and minutes from UTC, and nothing behind them
abbrev pub offset_if : Bool → ℕ → ℕ → List ℕ → Option ℤ
offset_if negative h m rest =
    if is_empty rest && (nat_lt h 24 && nat_lt m 60)
    then Some (signed negative (h * 3600 + m * 60)) else None

abbrev pub offset_of : Bool → List ℕ → Option ℤ
offset_of negative text =
    option_and_then (λ h. option_and_then (λ m. offset_if negative h.0 m.0 m.1)
    (two_more (0, h.1))) (two_then 58 text)

-- how far the clock is ahead of UTC: a `Z`, or a sign, hours and minutes
abbrev pub offset_at : List ℕ → Option ℤ
offset_at [] = None
offset_at (c ∷ rest) =
    if c == 90 then (if is_empty rest then Some (pos 0) else None)
    else if c == 43 then offset_of false rest
    else if c == 45 then offset_of true rest
    else None

-- the seconds of the years from 1 to 9999
abbrev pub is_second : ℤ → Bool
is_second z = int_le (neg_ℤ (pos 62_135_596_800)) z && int_le z (pos 253_402_300_799)

abbrev pub timestamp_if : ℤ → ℕ → Option (ℤ × ℤ)
timestamp_if z nanos = if is_second z then Some (z, pos nanos) else None

abbrev pub seconds_of : ℤ → ℕ → ℤ → ℤ
seconds_of day clock offset = day *ℤ pos 86_400 +ℤ pos clock -ℤ offset

-- The seconds from 1970 on, and the nanoseconds, of a text: a date, a `T`, a time of the day, a
-- point and one to nine digits where a point stands, and how far the clock is ahead of UTC.
abbrev pub timestamp_of : List ℕ → Option (ℤ × ℤ)
timestamp_of text =
    option_and_then (λ date. option_and_then (λ clock. option_and_then (λ nanos. option_and_then
    (λ offset. timestamp_if (seconds_of date.0 clock.0 offset) nanos.0) (offset_at nanos.1))
    (fraction_at clock.1)) (clock_at date.1)) (date_at text)

abbrev pub MeansTimestamp : Json → ℤ × ℤ → Type 0
MeansTimestamp (string bytes) value = timestamp_of bytes ≡ Some value
MeansTimestamp null value = ⊥
MeansTimestamp (boolean b) value = ⊥
MeansTimestamp (number text) value = ⊥
MeansTimestamp (array es) value = ⊥
MeansTimestamp (object ms) value = ⊥

-- ---- what is written

-- a number below 100 by two digits, and one below 10,000 by four
abbrev pub in_two : ℕ → List ℕ
in_two n = digit_char (n / 10 % 10) ∷ digit_char (n % 10) ∷ []

abbrev pub in_four : ℕ → List ℕ
in_four n = in_two (n / 100) ++ in_two (n % 100)

-- hours, minutes and seconds before what follows
abbrev pub clock_text : ℕ → List ℕ → List ℕ
clock_text clock rest =
    in_two (clock / 3600)
    ++ (58 ∷ (in_two (clock / 60 % 60) ++ (58 ∷ (in_two (clock % 60) ++ rest))))

-- by UTC
abbrev pub timestamp_text : ℕ → ℕ → ℕ → ℕ → ℕ → List ℕ
timestamp_text y m d clock nanos =
    in_four y ++ (45 ∷ (in_two m ++ (45 ∷ (in_two d
    ++ (84 ∷ clock_text clock (fraction_text nanos ++ 90 ∷ []))))))

-- the value is this second of this day and these nanoseconds, and is in range
pub record IsTimestamp (y m d clock nanos : ℕ) (value : ℤ × ℤ) : Type 0 where
  pub date : is_date y m d ≡ true
  pub year : y < 10_000
  pub few_seconds : clock < 86_400
  pub few_nanos : nanos < 1_000_000_000
  pub seconds : value.0 ≡ days_from_civil (pos y) m d *ℤ pos 86_400 +ℤ pos clock
  pub fraction : value.1 ≡ pos nanos
  pub in_range : is_second value.0 ≡ true

-- the tree that is written of a timestamp that is in range
abbrev pub IsTimestampTree : ℤ × ℤ → Json → Type 0
IsTimestampTree value json =
    (y : ℕ) × (m : ℕ) × (d : ℕ) × (clock : ℕ) × (nanos : ℕ) × IsTimestamp y m d clock nanos value
    × (json ≡ string (timestamp_text y m d clock nanos))
