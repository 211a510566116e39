-- Digits that are read again.
use Rattle.std.proofs.Common.{◌≡◌, ℕ, zero, suc, ◌+◌, ◌*◌, ◌/◌, ◌%◌, ◌<◌, ◌≤◌, Bool, true, false, cond, ◌==◌, List, [], ◌∷◌, ◌++◌, length, Option, Some, None, refl, ap, ◌∙◌, arith}
use Rattle.std.proofs.lemmas.Bool.Decides.{nat_tests}
use Rattle.std.proofs.lemmas.Str.{digit_value-digit_char}
use Rattle.std.specs.Char.{digit_char, digit_value}
use Rattle.std.specs.Str.Parse.{AllDigits, digits_value_after}
use Rattle.wire_json.specs.Bytes.{begins}
use Rattle.wire_jsontimes.specs.Digits.{Front, digit_more, is_digit, place_more, three, times, whole_at}

pub digit_test : (c : ℕ) → digit_value c < 10 → is_digit c ≡ true
digit_test c small = grind (arith, nat_tests)

-- ---- digits

stays : (n : ℕ) (rest : List ℕ) → begins is_digit rest ≡ false → digit_more (n, rest) ≡ (n, rest)
stays n [] other = refl
stays n (c ∷ rest) other = rw other refl

stays_times : (k n : ℕ) (rest : List ℕ) → begins is_digit rest ≡ false
    → times k digit_more (n, rest) ≡ (n, rest)
stays_times zero n rest other = refl
stays_times (suc k) n rest other =
    ap (times k digit_more) (stays n rest other) ∙ stays_times k n rest other

one_digit : (n c : ℕ) (rest : List ℕ) → digit_value c < 10
    → digit_more (n, c ∷ rest) ≡ (n * 10 + digit_value c, rest)
one_digit n c rest small = rw (digit_test c small) refl

-- digits are taken where there may be so many, up to what is none
pub digits_taken : (ds : List ℕ) (k n : ℕ) (rest : List ℕ) → AllDigits 10 ds → length ds ≤ k
    → begins is_digit rest ≡ false
    → times k digit_more (n, ds ++ rest) ≡ (digits_value_after 10 n ds, rest)
digits_taken [] k n rest all few other = stays_times k n rest other
digits_taken (c ∷ ds) zero n rest all few other = absurd (omega (arith, few))
digits_taken (c ∷ ds) (suc k) n rest all few other =
    ap (times k digit_more) (one_digit n c (ds ++ rest) all.0)
    ∙ digits_taken ds k (n * 10 + digit_value c) rest all.1 (omega (arith, few)) other

-- ---- places of a fraction

no_place : (n : ℕ) (rest : List ℕ) → begins is_digit rest ≡ false
    → place_more (n, rest) ≡ (n * 10, rest)
no_place n [] other = refl
no_place n (c ∷ rest) other = rw other refl

no_three : (n : ℕ) (rest : List ℕ) → begins is_digit rest ≡ false
    → times 3 place_more (n, rest) ≡ (n * 10 * 10 * 10, rest)
no_three n rest other =
    ap (times 2 place_more) (no_place n rest other)
    ∙ ap (times 1 place_more) (no_place (n * 10) rest other) ∙ no_place (n * 10 * 10) rest other

-- where no digit stands three places are zeros, and so are six
pub three_zeros : (n : ℕ) (rest : List ℕ) → begins is_digit rest ≡ false
    → times 3 place_more (n, rest) ≡ (n * 1000, rest)
three_zeros n rest other =
    no_three n rest other ∙ ap (λ (m : ℕ). (m, rest)) (omega arith)

pub six_zeros : (n : ℕ) (rest : List ℕ) → begins is_digit rest ≡ false
    → times 6 place_more (n, rest) ≡ (n * 1_000_000, rest)
six_zeros n rest other =
    ap (times 3 place_more) (three_zeros n rest other) ∙ three_zeros (n * 1000) rest other
    ∙ ap (λ (m : ℕ). (m, rest)) (omega arith)

-- one digit more of a fraction
one_place : (n d : ℕ) (rest : List ℕ) → d < 10
    → place_more (n, digit_char d ∷ rest) ≡ (n * 10 + d, rest)
one_place n d rest small =
    let value = digit_value-digit_char d (omega (arith, small)) in
    rw (digit_test (digit_char d) (omega (arith, value, small)))
    (ap (λ (m : ℕ). (n * 10 + m, rest)) value)

of_three : (n m : ℕ) → m < 1000
    → ((n * 10 + m / 100 % 10) * 10 + m / 10 % 10) * 10 + m % 10 ≡ n * 1000 + m
of_three n m small = omega (arith, small)

-- three digits more
pub three_taken : (n m : ℕ) (rest : List ℕ) → m < 1000
    → times 3 place_more (n, three m ++ rest) ≡ (n * 1000 + m, rest)
three_taken n m rest small =
    let a = m / 100 % 10 in
    let b = m / 10 % 10 in
    let c = m % 10 in
    ap (times 2 place_more) (one_place n a (digit_char b ∷ digit_char c ∷ rest) (omega arith))
    ∙ ap (times 1 place_more) (one_place (n * 10 + a) b (digit_char c ∷ rest) (omega arith))
    ∙ one_place ((n * 10 + a) * 10 + b) c rest (omega arith)
    ∙ ap (λ (k : ℕ). (k, rest)) (of_three n m small)

pub first_is_digit : (m : ℕ) (rest : List ℕ) → begins is_digit (three m ++ rest) ≡ true
first_is_digit m rest =
    let value = digit_value-digit_char (m / 100 % 10) (omega arith) in
    digit_test (digit_char (m / 100 % 10)) (omega (arith, value))

-- ---- a whole number that begins

chosen : (zero_first digit_first : Bool) (x y : Option Front) → zero_first ≡ false
    → digit_first ≡ true → cond zero_first x (cond digit_first y None) ≡ y
chosen true d x y p q = absurd cc
chosen false true x y p q = refl
chosen false false x y p q = absurd cc

pub whole_begun : (c : ℕ) (rest : List ℕ) → (c == 48) ≡ false → digit_value c < 10
    → whole_at (c ∷ rest) ≡ Some (times 12 digit_more (0, c ∷ rest))
whole_begun c rest other small =
    chosen (c == 48) (is_digit c) (Some (0, rest)) (Some (times 12 digit_more (0, c ∷ rest))) other
    (digit_test c small)

pub no_zero : (c : ℕ) → (c ≡ 48 → ⊥) → (c == 48) ≡ false
no_zero c other = grind (arith, nat_tests)

pub taken_if : (b : Bool) (y : Option Front) → b ≡ true → cond b y None ≡ y
taken_if true y h = refl
taken_if false y h = absurd cc
