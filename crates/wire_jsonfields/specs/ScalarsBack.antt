-- What is written of a scalar is read as it.
use Rattle.std.proofs.Common.{◌≡◌, ℕ, ◌<◌, ◌^◌, Bool, true, false, List, inl, refl, sym, subst, arith}
use Rattle.std.proofs.lemmas.Str.{IsUtf8-from_ascii}
use Rattle.std.specs.Float.{Float, Format, nan, inf, fin}
use Rattle.std.specs.Int.{w32, w64}
use Rattle.std.specs.Prelude.{ℤ, codes, FitsSigned, IsUtf8, decimal}
use Rattle.std.specs.Fmt.{signed_decimal}
use Rattle.base64.proofs.EngineFacts.{decode_of-encode_of, IsAscii-encode_of}
use Rattle.base64.specs.Engines.{standard, standard_pad_indifferent}
use Rattle.base64.specs.GeneralPurpose.{IsBytes, encode_of}
use Rattle.itoa.proofs.Decimal.{IsAscii-signed_decimal}
use Rattle.std.proofs.lemmas.Fmt.{IsAscii-decimal}
use Rattle.wire_json.specs.Json.{Json, null, boolean, number, string, IsLawful}
use Rattle.wire_protojson.specs.Numbers.{MeansFloat, MeansSigned, MeansUnsigned}
use Rattle.wire_protojson.specs.Scalars.{MeansBool, MeansBytes, MeansString}
use Rattle.wire_protojson.specs.Trees.{IsFloatTree, bytes_tree, long_signed_tree, long_unsigned_tree, short_signed_tree, short_unsigned_tree}
use Rattle.wire_protojson.proofs.NumberTexts.{fits_wider}
use Rattle.wire_protojson.proofs.ReadBack.{float_means, signed_back, spells_decimal, spells_integer, unsigned_back}
use Rattle.wire_jsonfields.specs.Back.{ComesBack, IsBack}

string_not_null : (s : List ℕ) (e : Json) → e ≡ string s → e ≡ null → ⊥
string_not_null s e is h = absurd cc

number_not_null : (s : List ℕ) (e : Json) → e ≡ number s → e ≡ null → ⊥
number_not_null s e is h = absurd cc

bool_not_null : (b : Bool) (e : Json) → e ≡ boolean b → e ≡ null → ⊥
bool_not_null b e is h = absurd cc

-- a tree that is the one of its value
by_tree : {V : Type 0} (Means : Json → V → Type 0) (v : V) (tree : Json) → IsLawful tree
    → Means tree v → ((e : Json) → e ≡ tree → e ≡ null → ⊥) → (e : Json) → e ≡ tree
    → IsBack Means e v
by_tree Means v tree lawful means present e is = record {
  lawful = subst IsLawful (sym is) lawful;
  means = subst (λ (j : Json). Means j v) (sym is) means;
  present = present e is;
}

pub short_signed_back : (z : ℤ) → FitsSigned w32 z
    → ComesBack (MeansSigned w32) (λ z json. json ≡ short_signed_tree z) z
short_signed_back z fits =
    let wide = fits_wider z fits in
    by_tree (MeansSigned w32) z (short_signed_tree z) (spells_integer z wide)
    (signed_back w32 z wide fits (short_signed_tree z) refl) (number_not_null (signed_decimal z))

pub long_signed_back : (z : ℤ) → FitsSigned w64 z
    → ComesBack (MeansSigned w64) (λ z json. json ≡ long_signed_tree z) z
long_signed_back z fits =
    by_tree (MeansSigned w64) z (long_signed_tree z)
    (IsUtf8-from_ascii _ (IsAscii-signed_decimal z fits))
    (signed_back w64 z fits fits (long_signed_tree z) (refl, spells_integer z fits))
    (string_not_null (signed_decimal z))

pub short_unsigned_back : (n : ℕ) → n < 2 ^ 32
    → ComesBack (MeansUnsigned 32) (λ n json. json ≡ short_unsigned_tree n) n
short_unsigned_back n fits =
    let wide : n < 2 ^ 64 = omega (arith, fits) in
    by_tree (MeansUnsigned 32) n (short_unsigned_tree n) (spells_decimal n wide)
    (unsigned_back n wide 32 fits (short_unsigned_tree n) refl) (number_not_null (decimal n))

pub long_unsigned_back : (n : ℕ) → n < 2 ^ 64
    → ComesBack (MeansUnsigned 64) (λ n json. json ≡ long_unsigned_tree n) n
long_unsigned_back n fits =
    by_tree (MeansUnsigned 64) n (long_unsigned_tree n)
    (IsUtf8-from_ascii _ (IsAscii-decimal n fits))
    (unsigned_back n fits 64 fits (long_unsigned_tree n) (refl, spells_decimal n fits))
    (string_not_null (decimal n))

pub bool_back : (b : Bool) → ComesBack MeansBool (λ b json. json ≡ boolean b) b
bool_back b = by_tree MeansBool b (boolean b) tt refl (bool_not_null b)

pub text_back : (s : List ℕ) → IsUtf8 s → ComesBack MeansString (λ s json. json ≡ string s) s
text_back s utf8 = by_tree MeansString s (string s) utf8 refl (string_not_null s)

float_present : (f : Format) (x : Float) (e : Json) → IsFloatTree f x e → e ≡ null → ⊥
float_present f nan e is h = string_not_null (codes "NaN") e is h
float_present f (inf true) e is h = string_not_null (codes "-Infinity") e is h
float_present f (inf false) e is h = string_not_null (codes "Infinity") e is h
float_present f (fin s m k) e (text, is, spells, parses) h = number_not_null text e is h

pub float_back : (f : Format) (x : Float) → ComesBack (MeansFloat f) (IsFloatTree f) x
float_back f x e is =
    let both = float_means f x e is in
    record { lawful = both.0; means = both.1; present = float_present f x e is }

pub base64_back : (b : List ℕ) → IsBytes b → ComesBack MeansBytes (λ b json. json ≡ bytes_tree b) b
base64_back b bytes =
    by_tree MeansBytes b (bytes_tree b) (IsUtf8-from_ascii _ (IsAscii-encode_of standard b))
    (encode_of standard b, refl, inl (decode_of-encode_of standard_pad_indifferent b tt bytes))
    (string_not_null (encode_of standard b))
