-- Patterns of bits that are no numbers, and those that are written of numbers.
use Rattle.std.proofs.Common.{◌≡◌, ◌≢◌, ◌<◌, ◌%◌, ℕ, Bool, true, false, refl, sym, ap, ◌∙◌}
use Rattle.std.proofs.lemmas.Bool.{lt-ltb}
use Rattle.std.specs.Bool.{if◌then◌else◌}
use Rattle.wire_protojson.proofs.Floats.{double_nan, float_nan}
use Rattle.std.specs.Float.{Float, Format, binary32, binary64, nan, inf, fin, float_zero}
use lib.Ieee.{fits, is_nan, of_bits, to_bits}
use lib.Ieee.Bits.{nan_bits_above, nan_bits_is, of_bits-to_bits}
use lib.Dec.{T}

nan_alone : (x : Float) → is_nan x ≡ true → x ≡ nan
unfolding is_nan
nan_alone nan h = refl
nan_alone (inf s) h = absurd cc
nan_alone (fin s m e) h = absurd cc

pub double_of_nan : (b : ℕ) → 0x7FF0_0000_0000_0000 < b % 0x8000_0000_0000_0000
    → of_bits binary64 b ≡ nan
double_of_nan b h =
    nan_alone (of_bits binary64 b)
    (sym (nan_bits_is binary64 b) ∙ nan_bits_above binary64 b ∙ lt-ltb _ _ h)

pub float_of_nan : (b : ℕ) → 0x7F80_0000 < b % 0x8000_0000 → of_bits binary32 b ≡ nan
float_of_nan b h =
    nan_alone (of_bits binary32 b)
    (sym (nan_bits_is binary32 b) ∙ nan_bits_above binary32 b ∙ lt-ltb _ _ h)

pub not_zero : (x : Float) → x ≡ nan → x ≢ float_zero
not_zero x is h = no (sym is ∙ h)
  where
    no : nan ≡ float_zero → ⊥
    no k = absurd cc

kept : (f : Format) (quiet : ℕ) → of_bits f quiet ≡ nan → (x : Float) (test : Bool)
    → is_nan x ≡ test → T (fits f x) → of_bits f (if test then quiet else to_bits f x) ≡ x
kept f quiet is x true h fit = is ∙ sym (nan_alone x h)
kept f quiet is x false h fit = of_bits-to_bits f x fit

pub double_kept : (b : ℕ) (x : Float)
    → b ≡ (if is_nan x then 9221120237041090560 else to_bits binary64 x) → T (fits binary64 x)
    → of_bits binary64 b ≡ x
double_kept b x is fit =
    ap (of_bits binary64) is ∙ kept binary64 9221120237041090560 double_nan x (is_nan x) refl fit

pub float_kept : (b : ℕ) (x : Float)
    → b ≡ (if is_nan x then 2143289344 else to_bits binary32 x) → T (fits binary32 x)
    → of_bits binary32 b ≡ x
float_kept b x is fit =
    ap (of_bits binary32) is ∙ kept binary32 2143289344 float_nan x (is_nan x) refl fit
