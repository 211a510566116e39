-- Keys of maps, by the names of members.
use Rattle.std.proofs.Common.{◌≡◌, ℕ, ◌<◌, ◌^◌, Bool, true, false, List, sym, ◌∙◌}
use Rattle.std.specs.Prelude.{ℤ, FitsSigned}
use Rattle.std.specs.Int.{Width}
use Rattle.std.specs.Str.Parse.{IsNumeral, digits_value, signed_digits_value, without_leading_plus, without_leading_sign}
use Rattle.wire_json.specs.Written.{word_text}

-- decimal digits behind a sign, which may be missing: a number in the range of its type
abbrev pub IsSignedKey : Width → List ℕ → ℤ → Type 0
IsSignedKey w text z =
    IsNumeral 10 (without_leading_sign text) × FitsSigned w z × (signed_digits_value 10 text ≡ z)

-- the same of an unsigned type of so many bits, with no minus sign
abbrev pub IsUnsignedKey : ℕ → List ℕ → ℕ → Type 0
IsUnsignedKey bits text n =
    IsNumeral 10 (without_leading_plus text) × (n < 2 ^ bits)
    × (digits_value 10 (without_leading_plus text) ≡ n)

-- ---- a name means one key at most

pub one_signed_key : (w : Width) (text : List ℕ) (j k : ℤ) → IsSignedKey w text j
    → IsSignedKey w text k → j ≡ k
one_signed_key w text j k (numeral, fits, is) (again, fit, same) = sym is ∙ same

pub one_unsigned_key : (bits : ℕ) (text : List ℕ) (j k : ℕ) → IsUnsignedKey bits text j
    → IsUnsignedKey bits text k → j ≡ k
one_unsigned_key bits text j k (numeral, fits, is) (again, fit, same) = sym is ∙ same

pub one_text_key : (text : List ℕ) (j k : List ℕ) → text ≡ j → text ≡ k → j ≡ k
one_text_key text j k is same = sym is ∙ same

pub one_bool_key : (text : List ℕ) (j k : Bool) → text ≡ word_text j → text ≡ word_text k → j ≡ k
one_bool_key text true true is same = cc
one_bool_key text false false is same = cc
one_bool_key text true false is same = absurd (unlike (sym is ∙ same))
  where
    unlike : word_text true ≡ word_text false → ⊥
    unlike h = absurd cc
one_bool_key text false true is same = absurd (unlike (sym is ∙ same))
  where
    unlike : word_text false ≡ word_text true → ⊥
    unlike h = absurd cc
