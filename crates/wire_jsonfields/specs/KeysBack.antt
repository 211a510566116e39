-- The name that is written of a number is read as its key.
use Rattle.std.proofs.Common.{◌≡◌, ℕ, suc, ◌<◌, ◌≤◌, ◌^◌, false, ◌==◌, List, [], ◌∷◌, refl, sym, ap, ◌∙◌, subst, arith}
use Rattle.std.proofs.lemmas.Bool.Decides.{nat_tests}
use Rattle.std.proofs.lemmas.Fmt.{decimal_is_IsNumeral}
use Rattle.std.proofs.lemmas.Str.Parse.{digit_from_value}
use Rattle.std.specs.Fmt.{signed_decimal}
use Rattle.std.specs.Int.{Width, w64}
use Rattle.std.specs.Prelude.{ℤ, pos, negsuc, decimal, FitsSigned}
use Rattle.std.specs.Str.Parse.{IsNumeral, digits_value, starts_with_minus, without_leading_plus, without_leading_sign}
use Rattle.wire_jsonfields.specs.Keys.{IsSignedKey, IsUnsignedKey}

-- digits have no sign before them
no_plus : (c : ℕ) → 48 ≤ c → (c == 43) ≡ false
no_plus c h = grind (arith, nat_tests)

no_minus : (c : ℕ) → 48 ≤ c → (c == 45) ≡ false
no_minus c h = grind (arith, nat_tests)

plain : (ds : List ℕ) → IsNumeral 10 ds
    → (without_leading_plus ds ≡ ds) × (without_leading_sign ds ≡ ds) × (starts_with_minus ds ≡ false)
plain [] h = absurd (omega (arith, h.0))
plain (c ∷ cs) h =
    let range = digit_from_value c h.1.0 in
    let low : 48 ≤ c = omega (arith, range.0) in
    let p = no_plus c low in
    let m = no_minus c low in
    (rw p refl, rw (m, p) refl, m)

pub unsigned_key_back : (bits : ℕ) (n : ℕ) → n < 2 ^ bits → n < 2 ^ 64
    → IsUnsignedKey bits (decimal n) n
unsigned_key_back bits n fits wide =
    let (numeral, value) = decimal_is_IsNumeral n wide in
    let same = plain (decimal n) numeral in
    (subst (IsNumeral 10) (sym same.0) numeral, fits, ap (digits_value 10) same.0 ∙ value)

pub signed_key_back : (w : Width) (z : ℤ) → FitsSigned w z → FitsSigned w64 z
    → IsSignedKey w (signed_decimal z) z
signed_key_back w (pos n) fits wide =
    let (numeral, value) = decimal_is_IsNumeral n (omega (arith, wide)) in
    let same = plain (decimal n) numeral in (
      subst (IsNumeral 10) (sym same.1) numeral,
      fits,
      rw (same.2, same.0, value) refl,
    )
signed_key_back w (negsuc n) fits wide =
    let (numeral, value) = decimal_is_IsNumeral (suc n) (omega (arith, wide)) in
    (numeral, fits, rw value refl)
