-- What is written of a duration is read as it.
use Rattle.std.proofs.Common.{◌≡◌, ℕ, zero, suc, ◌+◌, ◌*◌, ◌/◌, ◌%◌, ◌^◌, ◌<◌, ◌≤◌, Bool, true, false, cond, nat_lt, slice_index, inl, inr, ◌⊎◌, ◌==◌, List, [], ◌∷◌, ◌++◌, length, Some, refl, sym, ap, ◌∙◌, subst, arith}
use Rattle.std.proofs.lemmas.Bool.Decides.{nat_tests}
use Rattle.std.proofs.lemmas.Fmt.{IsAscii-decimal, decimal_digit, decimal_is_IsNumeral, first_decimal, length-decimal-le}
use Rattle.std.proofs.lemmas.Str.{IsUtf8-append, IsUtf8-from_ascii, IsUtf8-nil}
use Rattle.std.proofs.lemmas.Str.Parse.{digit_from_value}
use Rattle.std.specs.Char.{digit_char}
use Rattle.std.specs.List.{AllByRecursion}
use Rattle.std.specs.Prelude.{ℤ, decimal, get_or, option_and_then, IsAscii, IsUtf8}
use Rattle.std.specs.Str.Parse.{AllDigits, digits_value}
use Rattle.wire_json.specs.Bytes.{begins, is_byte}
use Rattle.wire_jsontimes.specs.Digits.{Front, fraction_at, fraction_text, is_digit, nanos_at, place_more, places_text, three, times, whole_at}
use Rattle.wire_json.specs.Json.{Json, null, boolean, number, string, array, object, IsLawful}
use Rattle.wire_protojson.specs.Decided.{decided}
use Rattle.wire_protojson.proofs.ReadBack.{by_meaning}
use Rattle.wire_jsontimes.specs.Laws.{DurationIsDecided, DurationReadsBack}
use Rattle.wire_jsontimes.specs.Durations.{IsDuration, IsDurationTree, MeansDuration, duration_behind, duration_if, duration_of, duration_text, minus_text, signed}
use Rattle.wire_jsontimes.proofs.Taken.{digits_taken, first_is_digit, six_zeros, taken_if, three_taken, three_zeros, whole_begun}

-- ---- seconds

not_zero : (c : ℕ) → 48 < c → (c == 48) ≡ false
not_zero c above = grind (arith, nat_tests)

-- digits that begin with no zero are a whole number
whole_digits : (ds rest : List ℕ) → AllDigits 10 ds → 0 < length ds → 48 < get_or ds 0 0
    → length ds ≤ 12 → begins is_digit rest ≡ false
    → whole_at (ds ++ rest) ≡ Some (digits_value 10 ds, rest)
whole_digits [] rest all some first few other = absurd (omega (arith, some))
whole_digits (c ∷ ds) rest all some first few other =
    whole_begun c (ds ++ rest) (not_zero c first) all.0
    ∙ ap Some (digits_taken (c ∷ ds) 12 0 rest all few other)

zero_or_more : (n : ℕ) → (n ≡ 0) ⊎ (0 < n)
zero_or_more zero = inl refl
zero_or_more (suc n) = inr (omega arith)

pub whole_back : (n : ℕ) (rest : List ℕ) → n < 1_000_000_000_000 → begins is_digit rest ≡ false
    → whole_at (decimal n ++ rest) ≡ Some (n, rest)
whole_back n rest small other = by_size (zero_or_more n)
  where
    by_size : (n ≡ 0) ⊎ (0 < n) → whole_at (decimal n ++ rest) ≡ Some (n, rest)
    by_size (inl none) =
        ap (λ (ds : List ℕ). whole_at (ds ++ rest))
        (ap decimal none ∙ decimal_digit 0 (omega arith))
        ∙ ap (λ (m : ℕ). Some (m, rest)) (sym none)
    by_size (inr some) =
        let (numeral, value) = decimal_is_IsNumeral n (omega (arith, small)) in
        whole_digits (decimal n) rest numeral.1 numeral.0
        (first_decimal n some (omega (arith, small)))
        (length-decimal-le 12 n (omega arith) small (omega (arith, small))) other
        ∙ ap (λ (m : ℕ). Some (m, rest)) value

no_minus_digits : (ds rest : List ℕ) → AllDigits 10 ds → 0 < length ds
    → begins (is_byte 45) (ds ++ rest) ≡ false
no_minus_digits [] rest all some = absurd (omega (arith, some))
no_minus_digits (c ∷ ds) rest all some =
    let range = digit_from_value c all.0 in
    let low = range.0 in
    grind (arith, nat_tests)

no_minus : (n : ℕ) (rest : List ℕ) → n < 2 ^ 64 → begins (is_byte 45) (decimal n ++ rest) ≡ false
no_minus n rest small =
    let (numeral, value) = decimal_is_IsNumeral n small in
    no_minus_digits (decimal n) rest numeral.1 numeral.0

-- ---- nanoseconds

module _ (n c : ℕ) (more : List ℕ) (small : n < 1_000_000_000) (other : is_digit c ≡ false) where
  abbrev Taken : List ℕ → Type 0
  Taken ds = nanos_at (ds ++ c ∷ more) ≡ Some (n, c ∷ more)

  by_three : (rest : List ℕ) → times 6 place_more (n / 1_000_000, rest) ≡ (n, c ∷ more)
      → nanos_at (three (n / 1_000_000) ++ rest) ≡ Some (n, c ∷ more)
  by_three rest h =
      let whole = three (n / 1_000_000) ++ rest in
      let start = three_taken 0 (n / 1_000_000) rest (omega (arith, small))
      ∙ ap (λ (m : ℕ). (m, rest)) (omega arith) in
      taken_if (begins is_digit whole) (Some (times 9 place_more (0, whole)))
      (first_is_digit (n / 1_000_000) rest)
      ∙ ap Some (ap (times 6 place_more) start ∙ h)

  millis : (n % 1_000_000 == 0) ≡ true
      → times 6 place_more (n / 1_000_000, c ∷ more) ≡ (n, c ∷ more)
  millis h =
      let none : n % 1_000_000 ≡ 0 = grind (arith, nat_tests) in
      six_zeros (n / 1_000_000) (c ∷ more) other
      ∙ ap (λ (m : ℕ). (m, c ∷ more)) (omega (arith, none))

  micros : (n % 1000 == 0) ≡ true
      → times 6 place_more (n / 1_000_000, three (n / 1000 % 1000) ++ c ∷ more) ≡ (n, c ∷ more)
  micros h =
      let none : n % 1000 ≡ 0 = grind (arith, nat_tests) in
      ap (times 3 place_more)
      (three_taken (n / 1_000_000) (n / 1000 % 1000) (c ∷ more) (omega arith))
      ∙ three_zeros (n / 1_000_000 * 1000 + n / 1000 % 1000) (c ∷ more) other
      ∙ ap (λ (m : ℕ). (m, c ∷ more)) (omega (arith, none))

  all_places : times 6 place_more
      (n / 1_000_000, three (n / 1000 % 1000) ++ (three (n % 1000) ++ c ∷ more)) ≡ (n, c ∷ more)
  all_places =
      ap (times 3 place_more)
      (three_taken (n / 1_000_000) (n / 1000 % 1000) (three (n % 1000) ++ c ∷ more) (omega arith))
      ∙ three_taken (n / 1_000_000 * 1000 + n / 1000 % 1000) (n % 1000) (c ∷ more) (omega arith)
      ∙ ap (λ (m : ℕ). (m, c ∷ more)) (omega arith)

  by_tests : (million thousand : Bool) → (n % 1_000_000 == 0) ≡ million
      → (n % 1000 == 0) ≡ thousand
      → Taken (cond million (three (n / 1_000_000)) (cond thousand
      (three (n / 1_000_000) ++ three (n / 1000 % 1000))
      (three (n / 1_000_000) ++ (three (n / 1000 % 1000) ++ three (n % 1000)))))
  by_tests true thousand is also = by_three (c ∷ more) (millis is)
  by_tests false true is also = by_three (three (n / 1000 % 1000) ++ c ∷ more) (micros also)
  by_tests false false is also =
      by_three (three (n / 1000 % 1000) ++ (three (n % 1000) ++ c ∷ more)) all_places

  places_back : Taken (places_text n)
  places_back = by_tests (n % 1_000_000 == 0) (n % 1000 == 0) refl refl

  pub fraction_back : (c == 46) ≡ false
      → fraction_at (fraction_text n ++ c ∷ more) ≡ Some (n, c ∷ more)
  fraction_back no_point = by_none (n == 0) refl
    where
      by_none : (b : Bool) → (n == 0) ≡ b
          → fraction_at (cond b [] (46 ∷ places_text n) ++ c ∷ more) ≡ Some (n, c ∷ more)
      by_none true is =
          let none : n ≡ 0 = grind (arith, nat_tests) in
          rw no_point (ap (λ (m : ℕ). Some (m, c ∷ more)) (sym none))
      by_none false is = places_back

-- ---- the text

within : (whole : ℕ) → whole < 315_576_000_001 → nat_lt whole 315_576_000_001 ≡ true
within whole few = grind (arith, nat_tests)

behind_back : (negative : Bool) (whole nanos : ℕ) → whole < 315_576_000_001
    → nanos < 1_000_000_000
    → duration_behind negative (decimal whole ++ (fraction_text nanos ++ 115 ∷ []))
    ≡ Some (signed negative whole, signed negative nanos)
behind_back negative whole nanos few small =
    let behind = fraction_text nanos ++ 115 ∷ [] in
    let seconds = whole_back whole behind (omega (arith, few)) (apart nanos) in
    ap (option_and_then (λ (f : Front). option_and_then
    (λ (g : Front). duration_if negative f.0 g.0 g.1) (fraction_at f.1))) seconds
    ∙ ap (option_and_then (λ (g : Front). duration_if negative whole g.0 g.1))
    (fraction_back nanos 115 [] small refl refl)
    ∙ rw (within whole few) refl
  where
    by_none : (b : Bool) (ds : List ℕ)
        → begins is_digit (cond b [] (46 ∷ ds) ++ 115 ∷ []) ≡ false
    by_none true ds = refl
    by_none false ds = refl

    apart : (n : ℕ) → begins is_digit (fraction_text n ++ 115 ∷ []) ≡ false
    apart n = by_none (n == 0) (places_text n)

positive : (text : List ℕ) → begins (is_byte 45) text ≡ false
    → duration_of text ≡ duration_behind false text
positive [] other = refl
positive (c ∷ rest) other = rw other refl

pub duration_back : (negative : Bool) (whole nanos : ℕ) (v : ℤ × ℤ)
    → IsDuration negative whole nanos v
    → duration_of (duration_text negative whole nanos) ≡ Some v
duration_back negative whole nanos v h =
    by_sign negative ∙ ap Some (sym (pair v h.seconds h.fraction))
  where
    pair : (w : ℤ × ℤ) → w.0 ≡ signed negative whole → w.1 ≡ signed negative nanos
        → w ≡ (signed negative whole, signed negative nanos)
    pair (a, b) is same = cc

    by_sign : (b : Bool) → duration_of (duration_text b whole nanos)
        ≡ Some (signed b whole, signed b nanos)
    by_sign true = behind_back true whole nanos h.few_seconds h.few_nanos
    by_sign false =
        positive (decimal whole ++ (fraction_text nanos ++ 115 ∷ []))
        (no_minus whole (fraction_text nanos ++ 115 ∷ []) (omega (arith, h.few_seconds)))
        ∙ behind_back false whole nanos h.few_seconds h.few_nanos

-- ---- the tree

ascii : (bytes : List ℕ) → AllByRecursion (λ b. b < 128) bytes → IsAscii bytes
ascii [] h = λ i. omega arith
ascii (b ∷ bytes) h =
    let more = ascii bytes h.1 in
    λ i. at i more
  where
    at : (i : ℕ) → IsAscii bytes → slice_index (b ∷ bytes) i < 128
    at zero more = h.0
    at (suc i) more = more i

pub small_digit : (d : ℕ) → d < 10 → digit_char d < 128
small_digit d small = grind (arith, nat_tests)

pub ascii_text : (bytes : List ℕ) → AllByRecursion (λ b. b < 128) bytes → IsUtf8 bytes
ascii_text bytes h = IsUtf8-from_ascii bytes (ascii bytes h)

three_text : (n : ℕ) → IsUtf8 (three n)
three_text n =
    IsUtf8-from_ascii (three n) (ascii (three n) (
      small_digit (n / 100 % 10) (omega arith),
      (small_digit (n / 10 % 10) (omega arith), (small_digit (n % 10) (omega arith), tt)),
    ))

pub one_text : (b : ℕ) → b < 128 → IsUtf8 (b ∷ [])
one_text b small = IsUtf8-from_ascii (b ∷ []) (ascii (b ∷ []) (small, tt))

pub fraction_is_text : (n : ℕ) → IsUtf8 (fraction_text n)
fraction_is_text n = by_none (n == 0)
  where
    a : IsUtf8 (three (n / 1_000_000))
    a = three_text (n / 1_000_000)

    b : IsUtf8 (three (n / 1000 % 1000))
    b = three_text (n / 1000 % 1000)

    c : IsUtf8 (three (n % 1000))
    c = three_text (n % 1000)

    by_places : (million thousand : Bool) → IsUtf8 (cond million (three (n / 1_000_000))
        (cond thousand (three (n / 1_000_000) ++ three (n / 1000 % 1000))
        (three (n / 1_000_000) ++ (three (n / 1000 % 1000) ++ three (n % 1000)))))
    by_places true t = a
    by_places false true = IsUtf8-append _ _ a b
    by_places false false = IsUtf8-append _ _ a (IsUtf8-append _ _ b c)

    by_none : (none : Bool) → IsUtf8 (cond none [] (46 ∷ places_text n))
    by_none true = IsUtf8-nil
    by_none false =
        IsUtf8-append (46 ∷ []) (places_text n) (one_text 46 (omega arith))
        (by_places (n % 1_000_000 == 0) (n % 1000 == 0))

minus_is_text : (negative : Bool) → IsUtf8 (minus_text negative)
minus_is_text true = one_text 45 (omega arith)
minus_is_text false = IsUtf8-nil

duration_is_text : (negative : Bool) (whole nanos : ℕ) → whole < 2 ^ 64
    → IsUtf8 (duration_text negative whole nanos)
duration_is_text negative whole nanos small =
    IsUtf8-append (minus_text negative) _ (minus_is_text negative)
    (IsUtf8-append (decimal whole) _
    (IsUtf8-from_ascii (decimal whole) (IsAscii-decimal whole small))
    (IsUtf8-append (fraction_text nanos) (115 ∷ []) (fraction_is_text nanos)
    (one_text 115 (omega arith))))

pub duration_lawful : (value : ℤ × ℤ) (json : Json) → IsDurationTree value json → IsLawful json
duration_lawful value json (negative, whole, nanos, h, is) =
    subst IsLawful (sym is) (duration_is_text negative whole nanos (omega (arith, h.few_seconds)))

pub duration_means : (value : ℤ × ℤ) (json : Json) → IsDurationTree value json
    → MeansDuration json value
duration_means value json (negative, whole, nanos, h, is) =
    let P : Json → Type 0 = λ j. MeansDuration j value in
    subst P (sym is) (duration_back negative whole nanos value h)

pub duration_read_back : DurationReadsBack
duration_read_back value json tree =
    by_meaning MeansDuration value json (duration_lawful value json tree)
    (duration_means value json tree)

one_meaning : (json : Json) (v w : ℤ × ℤ) → MeansDuration json v → MeansDuration json w → v ≡ w
one_meaning (string bytes) v w p q = same (sym p ∙ q)
  where
    same : Some v ≡ Some w → v ≡ w
    same h = cc
one_meaning null v w p q = absurd p
one_meaning (boolean b) v w p q = absurd p
one_meaning (number text) v w p q = absurd p
one_meaning (array es) v w p q = absurd p
one_meaning (object ms) v w p q = absurd p

pub duration_decided : DurationIsDecided
duration_decided = decided MeansDuration one_meaning (λ es v m. absurd m) (λ ms v m. absurd m)
