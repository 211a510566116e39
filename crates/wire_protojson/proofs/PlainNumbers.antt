-- Plain numerals are numbers of JSON.
use Rattle.std.proofs.Common.{◌≡◌, ℕ, ◌<◌, ◌≤◌, Bool, true, false, cond, ◌||◌, ◌==◌, List, [], ◌∷◌, ◌++◌, length, get_or, Ok, refl, sym, ap, ap₂, ◌∙◌, subst, arith, append-nil}
use Rattle.std.proofs.lemmas.Bool.{ne_eqb, le-leb, and_from, eqb-true}
use Rattle.std.specs.Char.{is_ascii_digit, digit_value}
use Rattle.std.specs.Fmt.{sign_text}
use Rattle.std.specs.Str.Parse.{AllDigits}
use Rattle.fast_float.specs.Text.{Parts, text_of, exponent_text}
use Rattle.ryu.specs.Plain.{IsPlain, IsPlainNumber}
use Rattle.wire_json.specs.Bytes.{begins, is_byte, past, past_one}
use Rattle.wire_json.specs.Number.{digits_end, exponent_end, fraction_end, integer_end, is_sign, SpellsNumber}
use Rattle.wire_json.proofs.Numbers.{number_parts}

digit_range : (d : ℕ) → digit_value d < 10 → (48 ≤ d) × (d ≤ 57)
digit_range d h = grind arith

is_digit : (d : ℕ) → digit_value d < 10 → is_ascii_digit d ≡ true
is_digit d h =
    let range = digit_range d h in
    and_from _ _ (le-leb 48 d range.0) (le-leb d 57 range.1)

-- no digit goes on here
abbrev NoDigit : List ℕ → Type 0
NoDigit r = begins is_ascii_digit r ≡ false

past_none : (r : List ℕ) → NoDigit r → past is_ascii_digit r ≡ r
past_none [] h = refl
past_none (c ∷ r) h = rw h refl

past_digits : (ds r : List ℕ) → AllDigits 10 ds → NoDigit r → past is_ascii_digit (ds ++ r) ≡ r
past_digits [] r h none = past_none r none
past_digits (d ∷ ds) r h none = rw (is_digit d h.0) (past_digits ds r h.1 none)

digits_then : (ds r : List ℕ) → AllDigits 10 ds → 0 < length ds → NoDigit r
    → digits_end (ds ++ r) ≡ Ok r
digits_then [] r h some none = absurd (omega arith)
digits_then (d ∷ ds) r h some none = rw (is_digit d h.0) (ap Ok (past_digits ds r h.1 none))

lone : (ds r : List ℕ) → length ds ≡ 0 → ds ++ r ≡ r
lone [] r e = refl
lone (d ∷ ds) r e = absurd (omega arith)

first_of_whole : (zero : Bool) (d : ℕ) (ds r : List ℕ) → (zero ≡ true → length ds ≡ 0)
    → digits_end (d ∷ (ds ++ r)) ≡ Ok r
    → cond zero (Ok (ds ++ r)) (digits_end (d ∷ (ds ++ r))) ≡ Ok r
first_of_whole true d ds r alone more = ap Ok (lone ds r (alone refl))
first_of_whole false d ds r alone more = more

pub whole_then : (w r : List ℕ) → AllDigits 10 w → 0 < length w
    → (get_or w 0 0 ≡ 48 → length w ≡ 1) → NoDigit r
    → (integer_end (w ++ r) ≡ Ok r) × (begins (is_byte 45) (w ++ r) ≡ false)
whole_then [] r h some zero none = absurd (omega arith)
whole_then (d ∷ ds) r h some zero none = (
  first_of_whole (d == 48) d ds r (λ e. omega (arith, zero (eqb-true d 48 e)))
      (digits_then (d ∷ ds) r h (omega arith) none),
  ne_eqb d 45 (λ e. omega (arith, digit_range d h.0)),
)

-- what follows the digits, an exponent or nothing
abbrev Ends : List ℕ → Type 0
Ends e = (exponent_end e ≡ Ok []) × NoDigit e × (fraction_end e ≡ Ok e)

exponent_ends : (negative : Bool) (ds : List ℕ) → AllDigits 10 ds → Ends (exponent_text negative ds)
exponent_ends negative [] h = (refl, refl, refl)
exponent_ends true (d ∷ ds) h = (
  ap digits_end (sym (append-nil (d ∷ ds))) ∙ digits_then (d ∷ ds) [] h (omega arith) refl,
  refl,
  refl,
)
exponent_ends false (d ∷ ds) h =
    let range = digit_range d h.0 in
    let unsigned : is_sign d ≡ false =
    ap₂ (λ a b. a || b) (ne_eqb d 43 (λ e. omega arith)) (ne_eqb d 45 (λ e. omega arith)) in (
      ap (λ b. digits_end (cond b ds (d ∷ ds))) unsigned
          ∙ ap digits_end (sym (append-nil (d ∷ ds))) ∙ digits_then (d ∷ ds) [] h (omega arith) refl,
      refl,
      refl,
    )

fraction_then : (point : Bool) (ds e : List ℕ) → AllDigits 10 ds → (point ≡ true → 0 < length ds)
    → Ends e → (fraction_end (cond point (46 ∷ ds) [] ++ e) ≡ Ok e)
    × NoDigit (cond point (46 ∷ ds) [] ++ e)
fraction_then true ds e h some ends = (digits_then ds e h (some refl) ends.1, refl)
fraction_then false ds e h some ends = (ends.2, ends.1)

module _ (old m i f : List ℕ) (minus : m ≡ past_one (is_byte 45) old)
    (integer : integer_end m ≡ Ok i) (fraction : fraction_end i ≡ Ok f) where
  whole_number_end : exponent_end f ≡ Ok [] → SpellsNumber old
  whole_number_end h = number_parts old m minus i integer f fraction [] h

pub no_sign : (old : List ℕ) → begins (is_byte 45) old ≡ false → old ≡ past_one (is_byte 45) old
no_sign old h = rw h refl

pub spells_signed : (negative : Bool) (m i f : List ℕ) → begins (is_byte 45) m ≡ false
    → integer_end m ≡ Ok i → fraction_end i ≡ Ok f → exponent_end f ≡ Ok []
    → SpellsNumber (sign_text negative ++ m)
spells_signed true m i f none integer fraction exponent =
    whole_number_end (45 ∷ m) m i f refl integer fraction exponent
spells_signed false m i f none integer fraction exponent =
    whole_number_end m m i f (no_sign m none) integer fraction exponent

spells_parts : (negative : Bool) (p : Parts) → IsPlain p
    → SpellsNumber (sign_text negative ++ text_of p)
spells_parts negative p plain =
    let e = exponent_text p.exponent_negative p.exponent in
    let ends = exponent_ends p.exponent_negative p.exponent plain.well_formed.exponent_digits in
    let behind = cond p.point (46 ∷ p.fraction) [] ++ e in
    let f = fraction_then p.point p.fraction e plain.well_formed.fraction_digits plain.fraction ends in
    let w = whole_then p.whole behind plain.well_formed.whole_digits plain.whole
    plain.no_leading_zero f.1 in
    spells_signed negative (text_of p) behind e w.1 w.0 f.0 ends.0

pub spells_plain : (s : List ℕ) → IsPlainNumber s → SpellsNumber s
spells_plain s h = subst SpellsNumber (sym h.2) (spells_parts h.0 h.1 h.3)
