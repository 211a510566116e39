-- A number, with something else behind it.
use Rattle.std.proofs.Common.{◌≡◌, ℕ, Bool, true, false, cond, ◌||◌, List, [], ◌∷◌, ◌++◌, Result, Ok, Err, refl, sym, ap, ◌∙◌}
use Rattle.std.specs.Char.{is_ascii_digit}
use Rattle.wire_json.specs.Bytes.{◌>>=◌, begins, is_byte, past, past_one}
use Rattle.wire_json.specs.Number.{apart, digits_end, exponent_end, fraction_end, integer_end, is_exponent, is_of_number, is_sign, number_end}
use Rattle.wire_json.proofs.Numbers.{number_parts}

-- no character of numbers goes on here
abbrev Apart : List ℕ → Type 0
Apart rest = begins is_of_number rest ≡ false

neither : (a b : Bool) → (a || b) ≡ false → (a ≡ false) × (b ≡ false)
neither true b h = absurd cc
neither false b h = (refl, h)

no_digit : (rest : List ℕ) → Apart rest → begins is_ascii_digit rest ≡ false
no_digit [] h = refl
no_digit (c ∷ rest) h = (neither _ _ h).0

no_point : (rest : List ℕ) → Apart rest → begins (is_byte 46) rest ≡ false
no_point [] h = refl
no_point (c ∷ rest) h = (neither _ _ (neither _ _ h).1).0

no_exponent : (rest : List ℕ) → Apart rest → begins is_exponent rest ≡ false
no_exponent [] h = refl
no_exponent (c ∷ rest) h = (neither _ _ (neither _ _ (neither _ _ h).1).1).0

past_none : (p : ℕ → Bool) (rest : List ℕ) → begins p rest ≡ false → past p rest ≡ rest
past_none p [] h = refl
past_none p (c ∷ rest) h = rw h refl

past_by : (test : Bool) (p : ℕ → Bool) (c : ℕ) (text rest : List ℕ)
    → past p (text ++ rest) ≡ past p text ++ rest
    → cond test (past p (text ++ rest)) (c ∷ (text ++ rest))
    ≡ cond test (past p text) (c ∷ text) ++ rest
past_by true p c text rest h = h
past_by false p c text rest h = refl

past-append : (p : ℕ → Bool) (text rest : List ℕ) → begins p rest ≡ false
    → past p (text ++ rest) ≡ past p text ++ rest
past-append p [] rest h = past_none p rest h
past-append p (c ∷ text) rest h = past_by (p c) p c text rest (past-append p text rest h)

past_one_by : (test : Bool) (c : ℕ) (text rest : List ℕ)
    → cond test (text ++ rest) (c ∷ (text ++ rest)) ≡ cond test text (c ∷ text) ++ rest
past_one_by true c text rest = refl
past_one_by false c text rest = refl

past_one-append : (p : ℕ → Bool) (c : ℕ) (text rest : List ℕ)
    → past_one p ((c ∷ text) ++ rest) ≡ past_one p (c ∷ text) ++ rest
past_one-append p c text rest = past_one_by (p c) c text rest

module _ (rest : List ℕ) (behind : Apart rest) where
  digits_by : (test : Bool) (c : ℕ) (text left : List ℕ)
      → cond test (Ok (past is_ascii_digit (c ∷ text))) (Err (c ∷ text)) ≡ Ok left
      → cond test (Ok (past is_ascii_digit ((c ∷ text) ++ rest))) (Err ((c ∷ text) ++ rest))
      ≡ Ok (left ++ rest)
  digits_by true c text left h =
      let is : past is_ascii_digit (c ∷ text) ≡ left = cc in
      ap Ok (past-append is_ascii_digit (c ∷ text) rest (no_digit rest behind)
      ∙ ap (λ (l : List ℕ). l ++ rest) is)
  digits_by false c text left h = absurd cc

  digits_behind : (text left : List ℕ) → digits_end text ≡ Ok left
      → digits_end (text ++ rest) ≡ Ok (left ++ rest)
  digits_behind [] left h = absurd cc
  digits_behind (c ∷ text) left h = digits_by (is_ascii_digit c) c text left h

  integer_by : (test : Bool) (c : ℕ) (text left : List ℕ)
      → cond test (Ok text) (digits_end (c ∷ text)) ≡ Ok left
      → cond test (Ok (text ++ rest)) (digits_end ((c ∷ text) ++ rest)) ≡ Ok (left ++ rest)
  integer_by true c text left h =
      let is : text ≡ left = cc in
      ap (λ (l : List ℕ). Ok (l ++ rest)) is
  integer_by false c text left h = digits_behind (c ∷ text) left h

  integer_behind : (text left : List ℕ) → integer_end text ≡ Ok left
      → integer_end (text ++ rest) ≡ Ok (left ++ rest)
  integer_behind [] left h = absurd cc
  integer_behind (c ∷ text) left h = integer_by (is_byte 48 c) c text left h

  fraction_by : (test : Bool) (c : ℕ) (text left : List ℕ)
      → cond test (digits_end text) (Ok (c ∷ text)) ≡ Ok left
      → cond test (digits_end (text ++ rest)) (Ok ((c ∷ text) ++ rest)) ≡ Ok (left ++ rest)
  fraction_by true c text left h = digits_behind text left h
  fraction_by false c text left h =
      let is : c ∷ text ≡ left = cc in
      ap (λ (l : List ℕ). Ok (l ++ rest)) is

  fraction_behind : (text left : List ℕ) → fraction_end text ≡ Ok left
      → fraction_end (text ++ rest) ≡ Ok (left ++ rest)
  fraction_behind [] left h =
      let is : [] ≡ left = cc in
      rw (no_point rest behind) (ap (λ (l : List ℕ). Ok (l ++ rest)) is)
  fraction_behind (c ∷ text) left h = fraction_by (is_byte 46 c) c text left h

  signed_behind : (text left : List ℕ) → digits_end (past_one is_sign text) ≡ Ok left
      → digits_end (past_one is_sign (text ++ rest)) ≡ Ok (left ++ rest)
  signed_behind [] left h = absurd cc
  signed_behind (c ∷ text) left h =
      ap digits_end (past_one-append is_sign c text rest)
      ∙ digits_behind (past_one is_sign (c ∷ text)) left h

  exponent_by : (test : Bool) (c : ℕ) (text left : List ℕ)
      → cond test (digits_end (past_one is_sign text)) (Ok (c ∷ text)) ≡ Ok left
      → cond test (digits_end (past_one is_sign (text ++ rest))) (Ok ((c ∷ text) ++ rest))
      ≡ Ok (left ++ rest)
  exponent_by true c text left h = signed_behind text left h
  exponent_by false c text left h =
      let is : c ∷ text ≡ left = cc in
      ap (λ (l : List ℕ). Ok (l ++ rest)) is

  exponent_behind : (text left : List ℕ) → exponent_end text ≡ Ok left
      → exponent_end (text ++ rest) ≡ Ok (left ++ rest)
  exponent_behind [] left h =
      let is : [] ≡ left = cc in
      rw (no_exponent rest behind) (ap (λ (l : List ℕ). Ok (l ++ rest)) is)
  exponent_behind (c ∷ text) left h = exponent_by (is_exponent c) c text left h

  apart_by : (test : Bool) (c : ℕ) (text left : List ℕ)
      → cond test (Err (c ∷ text)) (Ok (c ∷ text)) ≡ Ok left
      → cond test (Err ((c ∷ text) ++ rest)) (Ok ((c ∷ text) ++ rest)) ≡ Ok (left ++ rest)
  apart_by true c text left h = absurd cc
  apart_by false c text left h =
      let is : c ∷ text ≡ left = cc in
      ap (λ (l : List ℕ). Ok (l ++ rest)) is

  apart_behind : (text left : List ℕ) → apart text ≡ Ok left
      → apart (text ++ rest) ≡ Ok (left ++ rest)
  apart_behind [] left h =
      let is : [] ≡ left = cc in
      rw behind (ap (λ (l : List ℕ). Ok (l ++ rest)) is)
  apart_behind (c ∷ text) left h = apart_by (is_of_number c) c text left h

-- what both parts of a reading gave
both_parts : {A B E : Type 0} (r : Result A E) (f : A → Result B E) (y : B) → (r >>= f) ≡ Ok y
    → (x : A) × (r ≡ Ok x) × (f x ≡ Ok y)
both_parts (Ok x) f y h = (x, refl, h)
both_parts (Err e) f y h = absurd cc

pub number_behind : (text rest : List ℕ) → number_end text ≡ Ok []
    → begins is_of_number rest ≡ false → number_end (text ++ rest) ≡ Ok rest
number_behind [] rest h behind = absurd cc
number_behind (c ∷ text) rest h behind =
    let m = past_one (is_byte 45) (c ∷ text) in
    let (e, exponent, ended) =
    both_parts (integer_end m >>= fraction_end >>= exponent_end) apart [] h in
    let (f, fraction, exponents) =
    both_parts (integer_end m >>= fraction_end) exponent_end e exponent in
    let (i, integer, fractions) = both_parts (integer_end m) fraction_end f fraction in
    number_parts ((c ∷ text) ++ rest) (m ++ rest) (sym (past_one-append (is_byte 45) c text rest))
    (i ++ rest) (integer_behind rest behind m i integer)
    (f ++ rest) (fraction_behind rest behind i f fractions)
    (e ++ rest) (exponent_behind rest behind f e exponents)
    ∙ apart_behind rest behind e [] ended
