-- What is written of a value is read as that value.
use Rattle.std.proofs.Common.{rules, ◌≡◌, ℕ, zero, suc, ◌+◌, ◌-◌, ◌*◌, ◌<◌, ◌^◌, Bool, true, false, List, [], ◌∷◌, ◌++◌, length, Ok, inl, inr, refl, sym, ap, ap₂, ◌∙◌, subst, arith, append-nil, get_or}
use Rattle.std.proofs.lemmas.Fmt.{decimal_is_IsNumeral, first_decimal, decimal_digit, IsAscii-decimal}
use Rattle.std.proofs.lemmas.Float.Parse.{scan_numeral-text_of}
use Rattle.std.proofs.lemmas.Str.{IsUtf8-from_ascii}
use Rattle.std.proofs.Math.Seq.{drop-append-add, take-append-add}
use Rattle.itoa.proofs.Decimal.{IsAscii-signed_decimal}
use Rattle.std.specs.Prelude.{ℤ, pos, negsuc, codes, decimal, FitsSigned, IsUtf8}
use Rattle.std.specs.Float.{Float, Format, nan, inf, fin, float_is_finite}
use Rattle.std.specs.Fmt.{signed_decimal}
use Rattle.std.specs.Int.{w32, w64, Width}
use Rattle.std.specs.Str.Parse.{digits_value, AllDigits}
use Rattle.fast_float.specs.Text.{Parts, scan, text_of, with_sign, IsWellFormed, IsWhole, whole_of}
use Rattle.base64.specs.Engines.{standard, standard_pad_indifferent}
use Rattle.base64.specs.GeneralPurpose.{IsBytes, encode_of}
use Rattle.base64.proofs.EngineFacts.{decode_of-encode_of, IsAscii-encode_of}
use Rattle.wire_json.specs.Bytes.{begins, is_byte}
use Rattle.wire_json.specs.Json.{Json, boolean, string, IsLawful}
use Rattle.wire_json.specs.Number.{integer_end, SpellsNumber}
use Rattle.wire_json.proofs.WrittenLaws.{written_reads_back_lemma}
use Rattle.wire_protojson.specs.Laws.{IsReadAs}
use Rattle.wire_protojson.specs.Numbers.{HasNumber, size_of_number, whole_number, IsWholeNumber, MeansFloat, MeansSigned, MeansUnsigned}
use Rattle.wire_protojson.specs.Scalars.{MeansBool, MeansBytes, MeansString}
use Rattle.wire_protojson.specs.Trees.{IsFloatTree, bytes_tree, long_signed_tree, long_unsigned_tree, short_signed_tree, short_unsigned_tree}
use Rattle.wire_protojson.proofs.NumberTexts.{fits_wider}
use Rattle.wire_protojson.proofs.PlainNumbers.{no_sign, whole_then, spells_signed}

-- a lawful tree that means a value
pub by_meaning : {V : Type 0} (Means : Json → V → Type 0) (value : V) (json : Json) → IsLawful json
    → Means json value → IsReadAs Means value json
by_meaning Means value json lawful means rest apart =
    (json, written_reads_back_lemma json rest lawful apart, means)

-- ---- decimals

-- the parts of digits alone
abbrev digits_alone : List ℕ → Parts
digits_alone ds = record {
  whole = ds;
  point = false;
  fraction = [];
  exponent_negative = false;
  exponent = [];
  len = length ds;
}

text_alone : (ds : List ℕ) → text_of (digits_alone ds) ≡ ds
text_alone ds = append-nil ds

alone_formed : (ds : List ℕ) → AllDigits 10 ds → IsWellFormed (digits_alone ds)
alone_formed ds h = record {
  whole_digits = h;
  fraction_digits = tt;
  exponent_digits = tt;
  no_point = λ p. refl;
  no_exponent = λ p. refl;
  len_is = ap length (sym (text_alone ds));
}

scan_alone : (ds : List ℕ) → AllDigits 10 ds → scan ds ≡ digits_alone ds
scan_alone ds h =
    ap scan (sym (text_alone ds)) ∙ scan_numeral-text_of (digits_alone ds) (alone_formed ds h)

module _ (n : ℕ) (fits : n < 2 ^ 64) where
  numeral : (0 < length (decimal n)) × AllDigits 10 (decimal n)
  numeral = (decimal_is_IsNumeral n fits).0

  value : digits_value 10 (decimal n) ≡ n
  value = (decimal_is_IsNumeral n fits).1

  no_leading_zero : get_or (decimal n) 0 0 ≡ 48 → length (decimal n) ≡ 1
  no_leading_zero = by_zero n fits
    where
      by_zero : (k : ℕ) → k < 2 ^ 64 → get_or (decimal k) 0 0 ≡ 48 → length (decimal k) ≡ 1
      by_zero zero fits h = ap length (decimal_digit 0 (omega arith))
      by_zero (suc k) fits h = absurd (omega (arith, first_decimal (suc k) (omega arith) fits, h))

  unsigned_end : (integer_end (decimal n ++ []) ≡ Ok [])
      × (begins (is_byte 45) (decimal n ++ []) ≡ false)
  unsigned_end = whole_then (decimal n) [] numeral.1 numeral.0 no_leading_zero refl

  integer : integer_end (decimal n) ≡ Ok []
  integer = ap integer_end (sym (append-nil (decimal n))) ∙ unsigned_end.0

  no_minus : begins (is_byte 45) (decimal n) ≡ false
  no_minus = ap (begins (is_byte 45)) (sym (append-nil (decimal n))) ∙ unsigned_end.1

  pub spells_decimal : SpellsNumber (decimal n)
  spells_decimal = spells_signed false (decimal n) [] [] no_minus integer refl refl

  pub spells_minus : SpellsNumber (45 ∷ decimal n)
  spells_minus = spells_signed true (decimal n) [] [] no_minus integer refl refl

  whole_alone : IsWhole (digits_alone (decimal n))
  whole_alone = ap (digits_value 10) (drop-append-add (decimal n) [] 0)

  worth : whole_of (digits_alone (decimal n)) ≡ n
  worth =
      let front = take-append-add (decimal n) [] 0 ∙ append-nil (decimal n) in
      let long = ap length (append-nil (decimal n)) in
      let shift : length (decimal n) + 0 - length (decimal n ++ []) ≡ 0 = omega (arith, long) in
      ap₂ (λ (ds : List ℕ) (k : ℕ). digits_value 10 ds * 10 ^ k) front shift ∙ omega (arith, value)

  unsigned_size : size_of_number (decimal n) ≡ digits_alone (decimal n)
  unsigned_size =
      ap scan (sym (no_sign (decimal n) no_minus)) ∙ scan_alone (decimal n) numeral.1

  unsigned_whole : IsWholeNumber (decimal n)
  unsigned_whole = subst IsWhole (sym unsigned_size) whole_alone

  unsigned_number : whole_number (decimal n) ≡ pos n
  unsigned_number = ap₂ with_sign no_minus (ap whole_of unsigned_size ∙ worth)

  signed_whole : IsWholeNumber (45 ∷ decimal n)
  signed_whole = subst IsWhole (sym (scan_alone (decimal n) numeral.1)) whole_alone

  signed_number : whole_number (45 ∷ decimal n) ≡ with_sign true n
  signed_number = ap (with_sign true) (ap whole_of (scan_alone (decimal n) numeral.1) ∙ worth)

  pub unsigned_back : (bits : ℕ) → n < 2 ^ bits → (json : Json) → HasNumber json (decimal n)
      → MeansUnsigned bits json n
  unsigned_back bits small json has = (decimal n, has, unsigned_whole, unsigned_number, small)

-- what fits into a signed type is in 64 bits
module _ (w : Width) where
  pub signed_back : (z : ℤ) → FitsSigned w64 z → FitsSigned w z → (json : Json)
      → HasNumber json (signed_decimal z) → MeansSigned w json z
  signed_back (pos n) small fits json has =
      let wide : n < 2 ^ 64 = omega (arith, small) in
      (decimal n, has, unsigned_whole n wide, unsigned_number n wide, fits)
  signed_back (negsuc k) small fits json has =
      let wide : suc k < 2 ^ 64 = omega (arith, small) in
      (45 ∷ decimal (suc k), has, signed_whole (suc k) wide, signed_number (suc k) wide, fits)

pub spells_integer : (z : ℤ) → FitsSigned w64 z → SpellsNumber (signed_decimal z)
spells_integer (pos n) small = spells_decimal n (omega (arith, small))
spells_integer (negsuc k) small = spells_minus (suc k) (omega (arith, small))

pub int32_read_back : (z : ℤ) → FitsSigned w32 z
    → IsReadAs (MeansSigned w32) z (short_signed_tree z)
int32_read_back z fits =
    by_meaning (MeansSigned w32) z (short_signed_tree z) (spells_integer z (fits_wider z fits))
    (signed_back w32 z (fits_wider z fits) fits (short_signed_tree z) refl)

pub int64_read_back : (z : ℤ) → FitsSigned w64 z
    → IsReadAs (MeansSigned w64) z (long_signed_tree z)
int64_read_back z fits =
    by_meaning (MeansSigned w64) z (long_signed_tree z)
    (IsUtf8-from_ascii _ (IsAscii-signed_decimal z fits))
    (signed_back w64 z fits fits (long_signed_tree z) (refl, spells_integer z fits))

pub uint32_read_back : (n : ℕ) → n < 2 ^ 32 → IsReadAs (MeansUnsigned 32) n (short_unsigned_tree n)
uint32_read_back n fits =
    let wide : n < 2 ^ 64 = omega (arith, fits) in
    by_meaning (MeansUnsigned 32) n (short_unsigned_tree n) (spells_decimal n wide)
    (unsigned_back n wide 32 fits (short_unsigned_tree n) refl)

pub uint64_read_back : (n : ℕ) → n < 2 ^ 64 → IsReadAs (MeansUnsigned 64) n (long_unsigned_tree n)
uint64_read_back n fits =
    by_meaning (MeansUnsigned 64) n (long_unsigned_tree n)
    (IsUtf8-from_ascii _ (IsAscii-decimal n fits))
    (unsigned_back n fits 64 fits (long_unsigned_tree n) (refl, spells_decimal n fits))

-- ---- floats

ascii_nan : IsUtf8 (codes "NaN")
ascii_nan = IsUtf8-from_ascii _ (search rules)

ascii_infinity : IsUtf8 (codes "Infinity")
ascii_infinity = IsUtf8-from_ascii _ (search rules)

ascii_minus_infinity : IsUtf8 (codes "-Infinity")
ascii_minus_infinity = IsUtf8-from_ascii _ (search rules)

pub float_means : (f : Format) (x : Float) (json : Json) → IsFloatTree f x json
    → IsLawful json × MeansFloat f json x
unfolding float_is_finite
float_means f nan json is = subst P (sym is) (ascii_nan, inl (inl (refl, refl)))
  where
    P : Json → Type 0
    P j = IsLawful j × MeansFloat f j nan
float_means f (inf true) json is =
    subst P (sym is) (ascii_minus_infinity, inl (inr (inr (refl, refl))))
  where
    P : Json → Type 0
    P j = IsLawful j × MeansFloat f j (inf true)
float_means f (inf false) json is = subst P (sym is) (ascii_infinity, inl (inr (inl (refl, refl))))
  where
    P : Json → Type 0
    P j = IsLawful j × MeansFloat f j (inf false)
float_means f (fin s m e) json (text, is, spells, parses) =
    subst P (sym is) (spells, inr (text, refl, parses, refl))
  where
    P : Json → Type 0
    P j = IsLawful j × MeansFloat f j (fin s m e)

pub floats_read_back : (f : Format) (x : Float) (json : Json) → IsFloatTree f x json
    → IsReadAs (MeansFloat f) x json
floats_read_back f x json is =
    let both = float_means f x json is in
    by_meaning (MeansFloat f) x json both.0 both.1

-- ---- the others

pub bools_read_back : (b : Bool) → IsReadAs MeansBool b (boolean b)
bools_read_back b = by_meaning MeansBool b (boolean b) tt refl

pub strings_read_back : (s : List ℕ) → IsUtf8 s → IsReadAs MeansString s (string s)
strings_read_back s utf8 = by_meaning MeansString s (string s) utf8 refl

pub bytes_read_back : (b : List ℕ) → IsBytes b → IsReadAs MeansBytes b (bytes_tree b)
bytes_read_back b bytes =
    by_meaning MeansBytes b (bytes_tree b) (IsUtf8-from_ascii _ (IsAscii-encode_of standard b))
    (encode_of standard b, refl, inl (decode_of-encode_of standard_pad_indifferent b tt bytes))
