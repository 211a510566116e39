-- Durations: what a text stands for, and what is written of one.
use Rattle.std.specs.Prelude.{◌≡◌, ℕ, ◌+◌, ◌<◌, Bool, true, false, ◌==◌, nat_lt, ℤ, pos, neg_ℤ, List, [], ◌∷◌, ◌++◌, Option, Some, None, option_and_then, decimal, if◌then◌else◌}
use Rattle.wire_json.specs.Bytes.{begins, is_byte, past_one}
use Rattle.wire_json.specs.Json.{Json, null, boolean, number, string, array, object}
use Rattle.wire_jsontimes.specs.Digits.{fraction_at, fraction_text, whole_at}

abbrev pub signed : Bool → ℕ → ℤ
signed true n = neg_ℤ (pos n)
signed false n = pos n

-- an `s`, and nothing behind it
abbrev pub is_s : List ℕ → Bool
is_s [] = false
is_s (c ∷ []) = c == 115
is_s (c ∷ d ∷ more) = false

-- at most 10,000 years
abbrev pub duration_if : Bool → ℕ → ℕ → List ℕ → Option (ℤ × ℤ)
duration_if negative whole nanos rest =
    if is_s rest then (
    if nat_lt whole 315_576_000_001 then Some (signed negative whole, signed negative nanos)
    else None) else None

abbrev pub duration_behind : Bool → List ℕ → Option (ℤ × ℤ)
duration_behind negative old =
    option_and_then (λ whole. option_and_then
    (λ nanos. duration_if negative whole.0 nanos.0 nanos.1) (fraction_at whole.1)) (whole_at old)

-- The seconds and nanoseconds of a text: a minus sign where one stands, a whole number with no zero
-- before it, a point and one to nine digits where a point stands, and an `s`.
abbrev pub duration_of : List ℕ → Option (ℤ × ℤ)
duration_of text = duration_behind (begins (is_byte 45) text) (past_one (is_byte 45) text)

abbrev pub MeansDuration : Json → ℤ × ℤ → Type 0
MeansDuration (string bytes) value = duration_of bytes ≡ Some value
MeansDuration null value = ⊥
MeansDuration (boolean b) value = ⊥
MeansDuration (number text) value = ⊥
MeansDuration (array es) value = ⊥
MeansDuration (object ms) value = ⊥

-- ---- what is written

abbrev pub minus_text : Bool → List ℕ
minus_text true = 45 ∷ []
minus_text false = []

abbrev pub duration_text : Bool → ℕ → ℕ → List ℕ
duration_text negative whole nanos =
    minus_text negative ++ (decimal whole ++ (fraction_text nanos ++ 115 ∷ []))

-- the value has this sign, these seconds and these nanoseconds, and is in range
pub record IsDuration (negative : Bool) (whole nanos : ℕ) (value : ℤ × ℤ) : Type 0 where
  pub seconds : value.0 ≡ signed negative whole
  pub fraction : value.1 ≡ signed negative nanos
  pub some : negative ≡ true → 0 < whole + nanos
  pub few_seconds : whole < 315_576_000_001
  pub few_nanos : nanos < 1_000_000_000

-- the tree that is written of a duration that is in range
abbrev pub IsDurationTree : ℤ × ℤ → Json → Type 0
IsDurationTree value json =
    (negative : Bool) × (whole : ℕ) × (nanos : ℕ) × IsDuration negative whole nanos value
    × (json ≡ string (duration_text negative whole nanos))
