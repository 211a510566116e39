-- Floats, and what is written of them.
use Rattle.std.proofs.Common.{◌≡◌, ◌≢◌, ◌++◌, Bool, true, false, List, ℕ, Some, Result, Ok, Err, nat_eq, refl, sym, ap, ◌∙◌}
use Rattle.std.proofs.lemmas.Bool.{eq-eqb, eqb-true}
use Rattle.std.specs.Prelude.{MatchBool, OnOk, codes}
use Rattle.std.specs.Float.{Float, Format, binary32, binary64, nan, inf, fin, float_is_finite, float_zero, is_sign_negative}
use Rattle.std.specs.Float.Parse.{parse_float}
use Rattle.wire_json.specs.Json.{Json, number, string}
use Rattle.wire_json.specs.Number.{SpellsNumber}
use Rattle.wire_json.specs.Written.{written}
use Rattle.wire_protojson.specs.Trees.{IsFloatTree}
use lib.Ieee.{of_bits, to_bits, is_nan}

pub double_nan : of_bits binary64 9221120237041090560 ≡ nan
unfolding of_bits
double_nan = refl

pub double_infinity : of_bits binary64 9218868437227405312 ≡ inf false
unfolding of_bits
double_infinity = refl

pub double_minus_infinity : of_bits binary64 18442240474082181120 ≡ inf true
unfolding of_bits
double_minus_infinity = refl

pub float_nan : of_bits binary32 2143289344 ≡ nan
unfolding of_bits
float_nan = refl

pub float_infinity : of_bits binary32 2139095040 ≡ inf false
unfolding of_bits
float_infinity = refl

pub float_minus_infinity : of_bits binary32 4286578688 ≡ inf true
unfolding of_bits
float_minus_infinity = refl

pub double_zero : of_bits binary64 0 ≡ float_zero
unfolding of_bits
double_zero = refl

pub float_zero_bits : of_bits binary32 0 ≡ float_zero
unfolding of_bits
float_zero_bits = refl

pub zero_double : to_bits binary64 float_zero ≡ 0
unfolding to_bits
zero_double = refl

pub zero_float : to_bits binary32 float_zero ≡ 0
unfolding to_bits
zero_float = refl

pub nan_is_not_zero : (x : Float) → is_nan x ≡ true → x ≢ float_zero
unfolding is_nan
nan_is_not_zero nan h is = absurd cc
nan_is_not_zero (inf true) h is = absurd cc
nan_is_not_zero (inf false) h is = absurd cc
nan_is_not_zero (fin s m e) h is = absurd cc

pub by_bits : (f : Format) → of_bits f 0 ≡ float_zero → to_bits f float_zero ≡ 0 → (x : Float)
    → of_bits f (to_bits f x) ≡ x → (same : Bool) → nat_eq (to_bits f x) 0 ≡ same
    → MatchBool same (x ≡ float_zero) (x ≢ float_zero)
by_bits f zero bits x back true h =
    sym back ∙ ap (of_bits f) (eqb-true (to_bits f x) 0 h) ∙ zero
by_bits f zero bits x back false h = λ is.
    let none : to_bits f x ≡ 0 = ap (to_bits f) is ∙ bits in
    let tested = eq-eqb (to_bits f x) 0 none in
    absurd cc

module _ (f : Format) where
  pub finite_tree : (x : Float) (text : List ℕ) → float_is_finite x ≡ true → SpellsNumber text
      → parse_float f text ≡ Some x → IsFloatTree f x (number text)
  unfolding float_is_finite
  finite_tree nan text finite spells parses = absurd cc
  finite_tree (inf true) text finite spells parses = absurd cc
  finite_tree (inf false) text finite spells parses = absurd cc
  finite_tree (fin s m e) text finite spells parses = (text, refl, spells, parses)

  pub nan_tree : (x : Float) → is_nan x ≡ true → IsFloatTree f x (string (codes "NaN"))
  unfolding is_nan
  nan_tree nan h = refl
  nan_tree (inf true) h = absurd cc
  nan_tree (inf false) h = absurd cc
  nan_tree (fin s m e) h = absurd cc

  pub infinity_tree : (x : Float) → float_is_finite x ≡ false → is_nan x ≡ false
      → is_sign_negative x ≡ false → IsFloatTree f x (string (codes "Infinity"))
  unfolding float_is_finite is_nan is_sign_negative
  infinity_tree nan finite a_nan sign = absurd cc
  infinity_tree (inf true) finite a_nan sign = absurd cc
  infinity_tree (inf false) finite a_nan sign = refl
  infinity_tree (fin s m e) finite a_nan sign = absurd cc

  pub minus_infinity_tree : (x : Float) → float_is_finite x ≡ false → is_nan x ≡ false
      → is_sign_negative x ≡ true → IsFloatTree f x (string (codes "-Infinity"))
  unfolding float_is_finite is_nan is_sign_negative
  minus_infinity_tree nan finite a_nan sign = absurd cc
  minus_infinity_tree (inf true) finite a_nan sign = refl
  minus_infinity_tree (inf false) finite a_nan sign = absurd cc
  minus_infinity_tree (fin s m e) finite a_nan sign = absurd cc

-- what was put is of some tree that is wanted
pub put_tree : (Wanted : Json → Type 0) (json : Json) → Wanted json → {T E : Type 0}
    (r : Result T E) (old new : List ℕ) → OnOk r (new ≡ old ++ written json)
    → OnOk r ((tree : Json) × Wanted tree × (new ≡ old ++ written tree))
put_tree Wanted json is (Ok done) old new h = (json, is, h)
put_tree Wanted json is (Err e) old new h = tt
