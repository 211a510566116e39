-- What is written of a timestamp is read as it.
use Rattle.std.proofs.Common.{◌≡◌, ℕ, suc, ◌+◌, ◌-◌, ◌*◌, ◌/◌, ◌%◌, ◌<◌, Bool, true, false, cond, nat_lt, ◌&&◌, ◌==◌, List, [], ◌∷◌, ◌++◌, Option, Some, None, refl, sym, ap, ◌∙◌, subst, arith, ℤ, pos, ◌+ℤ◌, ◌-ℤ◌}
use Rattle.std.proofs.lemmas.Bool.Decides.{nat_tests}
use Rattle.std.proofs.lemmas.Str.{IsUtf8-append, digit_value-digit_char}
use Rattle.std.specs.Char.{digit_char, digit_value}
use Rattle.std.specs.Prelude.{◌*ℤ◌, option_and_then, IsUtf8}
use Rattle.jiff_core.proofs.CalendarLemmas.{days_in_month_bounds}
use Rattle.jiff_core.proofs.SignedLemmas.{signed_arith}
use Rattle.jiff_core.specs.Calendar.{days_from_civil, days_in_month}
use Rattle.wire_json.specs.Json.{Json, null, boolean, number, string, array, object, IsLawful}
use Rattle.wire_protojson.specs.Decided.{decided}
use Rattle.wire_protojson.proofs.ReadBack.{by_meaning}
use Rattle.wire_jsontimes.specs.Digits.{Front, fraction_at, fraction_text, is_digit}
use Rattle.wire_jsontimes.specs.Laws.{TimestampIsDecided, TimestampReadsBack}
use Rattle.wire_jsontimes.specs.Timestamps.{IsTimestamp, IsTimestampTree, MeansTimestamp, clock_at, clock_of, clock_text, date_at, date_of, digit_at, in_four, four_then, is_date, is_second, offset_at, seconds_of, then_byte, timestamp_if, timestamp_of, timestamp_text, in_two, two_more, two_then}
use Rattle.wire_jsontimes.proofs.DurationBack.{ascii_text, fraction_back, fraction_is_text, one_text, small_digit}
use Rattle.wire_jsontimes.proofs.Taken.{digit_test}

chosen : {X : Type 0} (b : Bool) (x : X) → b ≡ true → cond b (Some x) None ≡ Some x
chosen true x h = refl
chosen false x h = absurd cc

both : (a b : Bool) → a ≡ true → b ≡ true → (a && b) ≡ true
both true true h k = refl
both false b h k = absurd cc
both true false h k = absurd cc

first_of : (a b : Bool) → (a && b) ≡ true → a ≡ true
first_of true b h = refl
first_of false b h = absurd cc

second_of : (a b : Bool) → (a && b) ≡ true → b ≡ true
second_of true b h = h
second_of false b h = absurd cc

-- ---- digits

one : (n d : ℕ) (rest : List ℕ) → d < 10
    → digit_at (n, digit_char d ∷ rest) ≡ Some (n * 10 + d, rest)
one n d rest small =
    let value = digit_value-digit_char d (omega (arith, small)) in
    chosen (is_digit (digit_char d)) (n * 10 + digit_value (digit_char d), rest)
    (digit_test (digit_char d) (omega (arith, value, small)))
    ∙ ap (λ (m : ℕ). Some (n * 10 + m, rest)) value

two_digits : (k n : ℕ) → n < 100 → (k * 10 + n / 10 % 10) * 10 + n % 10 ≡ k * 100 + n
two_digits k n small = omega (arith, small)

two_back : (k n : ℕ) (rest : List ℕ) → n < 100
    → two_more (k, in_two n ++ rest) ≡ Some (k * 100 + n, rest)
two_back k n rest small =
    ap (option_and_then digit_at) (one k (n / 10 % 10) (digit_char (n % 10) ∷ rest) (omega arith))
    ∙ one (k * 10 + n / 10 % 10) (n % 10) rest (omega arith)
    ∙ ap (λ (m : ℕ). Some (m, rest)) (two_digits k n small)

two_alone : (n : ℕ) (rest : List ℕ) → n < 100 → two_more (0, in_two n ++ rest) ≡ Some (n, rest)
two_alone n rest small =
    two_back 0 n rest small ∙ ap (λ (m : ℕ). Some (m, rest)) (omega arith)

same_byte : (n b : ℕ) (rest : List ℕ) → then_byte b (n, b ∷ rest) ≡ Some (n, rest)
same_byte n b rest = chosen (b == b) (n, rest) (grind (arith, nat_tests))

two_then_back : (n b : ℕ) (rest : List ℕ) → n < 100
    → two_then b (in_two n ++ b ∷ rest) ≡ Some (n, rest)
two_then_back n b rest small =
    ap (option_and_then (then_byte b)) (two_alone n (b ∷ rest) small) ∙ same_byte n b rest

four_then_back : (n b : ℕ) (rest : List ℕ) → n < 10_000
    → four_then b (in_four n ++ b ∷ rest) ≡ Some (n, rest)
four_then_back n b rest small =
    ap (λ (o : Option Front). option_and_then (then_byte b) (option_and_then two_more o))
    (two_alone (n / 100) (in_two (n % 100) ++ b ∷ rest) (omega (arith, small)))
    ∙ ap (option_and_then (then_byte b)) (two_back (n / 100) (n % 100) (b ∷ rest) (omega arith)
    ∙ ap (λ (m : ℕ). Some (m, b ∷ rest)) (omega arith))
    ∙ same_byte n b rest

-- ---- the date

module _ (y m d : ℕ) (rest : List ℕ) (year : y < 10_000) (date : is_date y m d ≡ true) where
  to_month : (nat_lt m 13 && (nat_lt 0 d && nat_lt d (suc (days_in_month (pos y) m)))) ≡ true
  to_month =
      second_of (nat_lt 0 m)
      (nat_lt m 13 && (nat_lt 0 d && nat_lt d (suc (days_in_month (pos y) m))))
      (second_of (nat_lt 0 y) (nat_lt 0 m && (nat_lt m 13
      && (nat_lt 0 d && nat_lt d (suc (days_in_month (pos y) m))))) date)

  small_month : m < 100
  small_month =
      let test = first_of (nat_lt m 13) (nat_lt 0 d && nat_lt d (suc (days_in_month (pos y) m)))
      to_month in
      grind (arith, nat_tests)

  small_day : d < 100
  small_day =
      let test = second_of (nat_lt 0 d) (nat_lt d (suc (days_in_month (pos y) m)))
      (second_of (nat_lt m 13) (nat_lt 0 d && nat_lt d (suc (days_in_month (pos y) m))) to_month) in
      let most = (days_in_month_bounds (pos y) m).0 in
      grind (arith, nat_tests)

  pub date_back : date_at (in_four y ++ (45 ∷ (in_two m ++ (45 ∷ (in_two d ++ 84 ∷ rest)))))
      ≡ Some (days_from_civil (pos y) m d, rest)
  date_back =
      ap (option_and_then (λ (f : Front). option_and_then (λ (g : Front). option_and_then
      (λ (h : Front). date_of f.0 g.0 h.0 h.1) (two_then 84 g.1)) (two_then 45 f.1)))
      (four_then_back y 45 (in_two m ++ (45 ∷ (in_two d ++ 84 ∷ rest))) year)
      ∙ ap (option_and_then (λ (g : Front). option_and_then
      (λ (h : Front). date_of y g.0 h.0 h.1) (two_then 84 g.1)))
      (two_then_back m 45 (in_two d ++ 84 ∷ rest) small_month)
      ∙ ap (option_and_then (λ (h : Front). date_of y m h.0 h.1))
      (two_then_back d 84 rest small_day)
      ∙ chosen (is_date y m d) (days_from_civil (pos y) m d, rest) date

-- ---- the clock

below : (n most : ℕ) → n < most → nat_lt n most ≡ true
below n most small = grind (arith, nat_tests)

clock_back : (clock : ℕ) (rest : List ℕ) → clock < 86_400
    → clock_at (clock_text clock rest) ≡ Some (clock, rest)
clock_back clock rest small =
    let h = clock / 3600 in
    let m = clock / 60 % 60 in
    let s = clock % 60 in
    ap (option_and_then (λ (f : Front). option_and_then (λ (g : Front). option_and_then
    (λ (e : Front). clock_of f.0 g.0 e.0 e.1) (two_more (0, g.1))) (two_then 58 f.1)))
    (two_then_back h 58 (in_two m ++ (58 ∷ (in_two s ++ rest))) (omega (arith, small)))
    ∙ ap (option_and_then (λ (g : Front). option_and_then
    (λ (e : Front). clock_of h g.0 e.0 e.1) (two_more (0, g.1))))
    (two_then_back m 58 (in_two s ++ rest) (omega arith))
    ∙ ap (option_and_then (λ (e : Front). clock_of h m e.0 e.1))
    (two_alone s rest (omega arith))
    ∙ chosen (nat_lt h 24 && (nat_lt m 60 && nat_lt s 60)) (h * 3600 + m * 60 + s, rest)
    (both _ _ (below h 24 (omega (arith, small)))
    (both _ _ (below m 60 (omega arith)) (below s 60 (omega arith))))
    ∙ ap (λ (n : ℕ). Some (n, rest)) (whole clock)
  where
    whole : (n : ℕ) → n / 3600 * 3600 + n / 60 % 60 * 60 + n % 60 ≡ n
    whole n = omega arith

-- ---- the text

no_offset : (z : ℤ) → z -ℤ pos 0 ≡ z
no_offset z = omega (arith, signed_arith)

pub timestamp_back : (y m d clock nanos : ℕ) (v : ℤ × ℤ) → IsTimestamp y m d clock nanos v
    → timestamp_of (timestamp_text y m d clock nanos) ≡ Some v
timestamp_back y m d clock nanos v h =
    let behind = fraction_text nanos ++ 90 ∷ [] in
    let day = days_from_civil (pos y) m d in
    ap (option_and_then (λ (date : ℤ × List ℕ). option_and_then (λ (f : Front). option_and_then
    (λ (g : Front). option_and_then
    (λ (offset : ℤ). timestamp_if (seconds_of date.0 f.0 offset) g.0) (offset_at g.1))
    (fraction_at f.1)) (clock_at date.1)))
    (date_back y m d (clock_text clock behind) h.year h.date)
    ∙ ap (option_and_then (λ (f : Front). option_and_then (λ (g : Front). option_and_then
    (λ (offset : ℤ). timestamp_if (seconds_of day f.0 offset) g.0) (offset_at g.1))
    (fraction_at f.1))) (clock_back clock behind h.few_seconds)
    ∙ ap (option_and_then (λ (g : Front). option_and_then
    (λ (offset : ℤ). timestamp_if (seconds_of day clock offset) g.0) (offset_at g.1)))
    (fraction_back nanos 90 [] h.few_nanos refl refl)
    ∙ ap (λ (z : ℤ). timestamp_if z nanos)
    (no_offset (day *ℤ pos 86_400 +ℤ pos clock) ∙ sym h.seconds)
    ∙ chosen (is_second v.0) (v.0, pos nanos) h.in_range
    ∙ ap Some (pair v h.fraction)
  where
    pair : (w : ℤ × ℤ) → w.1 ≡ pos nanos → (w.0, pos nanos) ≡ w
    pair (a, b) is = ap (λ (z : ℤ). (a, z)) (sym is)

-- ---- the tree

two_text : (n : ℕ) → IsUtf8 (in_two n)
two_text n =
    ascii_text (in_two n)
    (small_digit (n / 10 % 10) (omega arith), (small_digit (n % 10) (omega arith), tt))

four_text : (n : ℕ) → IsUtf8 (in_four n)
four_text n =
    IsUtf8-append (in_two (n / 100)) (in_two (n % 100)) (two_text (n / 100))
    (two_text (n % 100))

then_text : (b : ℕ) (rest : List ℕ) → b < 128 → IsUtf8 rest → IsUtf8 (b ∷ rest)
then_text b rest small h = IsUtf8-append (b ∷ []) rest (one_text b small) h

clock_is_text : (clock : ℕ) (rest : List ℕ) → IsUtf8 rest → IsUtf8 (clock_text clock rest)
clock_is_text clock rest h =
    IsUtf8-append (in_two (clock / 3600)) _ (two_text (clock / 3600))
    (then_text 58 _ (omega arith)
    (IsUtf8-append (in_two (clock / 60 % 60)) _ (two_text (clock / 60 % 60))
    (then_text 58 _ (omega arith)
    (IsUtf8-append (in_two (clock % 60)) rest (two_text (clock % 60)) h))))

timestamp_is_text : (y m d clock nanos : ℕ) → IsUtf8 (timestamp_text y m d clock nanos)
timestamp_is_text y m d clock nanos =
    IsUtf8-append (in_four y) _ (four_text y) (then_text 45 _ (omega arith)
    (IsUtf8-append (in_two m) _ (two_text m) (then_text 45 _ (omega arith)
    (IsUtf8-append (in_two d) _ (two_text d) (then_text 84 _ (omega arith)
    (clock_is_text clock _ (IsUtf8-append (fraction_text nanos) (90 ∷ []) (fraction_is_text nanos)
    (one_text 90 (omega arith)))))))))

pub timestamp_lawful : (value : ℤ × ℤ) (json : Json) → IsTimestampTree value json
    → IsLawful json
timestamp_lawful value json (y, m, d, clock, nanos, h, is) =
    subst IsLawful (sym is) (timestamp_is_text y m d clock nanos)

pub timestamp_means : (value : ℤ × ℤ) (json : Json) → IsTimestampTree value json
    → MeansTimestamp json value
timestamp_means value json (y, m, d, clock, nanos, h, is) =
    let P : Json → Type 0 = λ j. MeansTimestamp j value in
    subst P (sym is) (timestamp_back y m d clock nanos value h)

pub timestamp_read_back : TimestampReadsBack
timestamp_read_back value json tree =
    by_meaning MeansTimestamp value json (timestamp_lawful value json tree)
    (timestamp_means value json tree)

one_meaning : (json : Json) (v w : ℤ × ℤ) → MeansTimestamp json v → MeansTimestamp json w → v ≡ w
one_meaning (string bytes) v w p q = same (sym p ∙ q)
  where
    same : Some v ≡ Some w → v ≡ w
    same h = cc
one_meaning null v w p q = absurd p
one_meaning (boolean b) v w p q = absurd p
one_meaning (number text) v w p q = absurd p
one_meaning (array es) v w p q = absurd p
one_meaning (object ms) v w p q = absurd p

pub timestamp_decided : TimestampIsDecided
timestamp_decided = decided MeansTimestamp one_meaning (λ es v m. absurd m) (λ ms v m. absurd m)
