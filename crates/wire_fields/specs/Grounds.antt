-- What it stands on that written values are read back and decoded ones are in range, and that it
-- holds of each scalar type.
use Rattle.std.proofs.Common.{ℕ, ◌^◌, ◌<◌, ◌≤◌, Bool, true, false, refl, ap, ◌∙◌, arith}
use Rattle.std.specs.Int.{w32, w64}
use Rattle.std.specs.Prelude.{ℤ, pos, negsuc, FitsSigned, Option, IsUtf8}
use Rattle.wire_codec.specs.Enumeration.{number_of, known_or}
use Rattle.wire_codec.specs.FieldNumber.{IsFieldNumber}
use Rattle.wire_codec.specs.InRange.{IsPayloadFitting}
use Rattle.wire_codec.specs.Laws.{FieldsArePlain, JoinedTextsAndSizes, SpelledAreFitting}
use Rattle.wire_codec.specs.LimitsLaws.{ChargesAddUp}
use Rattle.wire_codec.specs.RecordLaws.{ShortestTextSpells, SpelledAreNumbered}
use Rattle.wire_codec.specs.ScalarLaws.{DecodesBack}
use Rattle.wire_codec.specs.TakingLaws.{OneReading}
use Rattle.wire_codec.specs.ValueMap as maps
use Rattle.wire_codec.specs.ValueMap.{ValueMap, wrapped, zigzag, truth}
use Rattle.wire_codec.specs.VarintLaws.{ShortestReadsBack}
use Rattle.wire_fields.specs.declared.form.Form.{Form}
use Rattle.wire_fields.specs.declared.form.Form.TheVariants.{Varint, Fixed64, Fixed32}
use Rattle.wire_fields.specs.Enums.{open_enum}
use Rattle.wire_fields.specs.Floats.{float, double}
use Rattle.wire_fields.specs.Numbers.{number_payload, numeric}
use Rattle.wire_fields.specs.Ranges as ranges
use Rattle.wire_fields.specs.Ranges.{Range, IsOpen, enum_range}
use Rattle.wire_fields.specs.ScalarBack.{ScalarBack, number_back, bytes_back, wrapped_fits, narrow_fits}
use Rattle.wire_fields.specs.Texts as texts

pub record Grounds : Type 0 where
  pub plain : FieldsArePlain
  pub charges : ChargesAddUp
  pub reading : OneReading
  pub spells : ShortestTextSpells
  pub shortest : ShortestReadsBack
  pub int32 : DecodesBack maps.int32 (FitsSigned w32)
  pub int64 : DecodesBack maps.int64 (FitsSigned w64)
  pub uint32 : DecodesBack maps.uint32 (λ v. v < 2 ^ 32)
  pub uint64 : DecodesBack maps.uint64 (λ v. v < 2 ^ 64)
  pub sint32 : DecodesBack maps.sint32 (FitsSigned w32)
  pub sint64 : DecodesBack maps.sint64 (FitsSigned w64)
  pub bool : DecodesBack maps.bool (λ v. Unit {0})
  pub fixed32 : DecodesBack maps.fixed32 (λ v. v < 2 ^ 32)
  pub fixed64 : DecodesBack maps.fixed64 (λ v. v < 2 ^ 64)
  pub sfixed32 : DecodesBack maps.sfixed32 (FitsSigned w32)
  pub sfixed64 : DecodesBack maps.sfixed64 (FitsSigned w64)
  pub fitting : SpelledAreFitting
  pub numbered : SpelledAreNumbered
  pub joined : JoinedTextsAndSizes
  pub number : (n : ℕ) → 1 ≤ n → n < 2 ^ 29 → IsFieldNumber n

-- numbers in range are read back, and fit where they are written
pub record NumberBack {V : Type 0} (form : Form) (map : ValueMap V) (r : Range V) : Type 0 where
  pub back : DecodesBack map r.Holds
  pub fits : (v : V) → r.Holds v → IsPayloadFitting (number_payload form (map.enc v))

zigzag_fits : (v : ℤ) → FitsSigned w64 v → zigzag v < 2 ^ 64
zigzag_fits (pos n) h = omega (arith, h)
zigzag_fits (negsuc n) h = omega (arith, h)

zigzag_narrow : (v : ℤ) → FitsSigned w32 v → zigzag v < 2 ^ 64
zigzag_narrow (pos n) h = omega (arith, h)
zigzag_narrow (negsuc n) h = omega (arith, h)

truth_fits : (v : Bool) → Unit {0} → truth v < 2 ^ 64
truth_fits true h = omega arith
truth_fits false h = omega arith

half_fits : (v : ℤ) → FitsSigned w32 v → wrapped 32 v < 2 ^ 32
half_fits (pos n) h = omega (arith, h)
half_fits (negsuc n) h = omega arith

module _ (g : Grounds) where
  pub int32_back : NumberBack Varint maps.int32 ranges.int32_range
  int32_back = record { back = g.int32; fits = narrow_fits }

  pub int64_back : NumberBack Varint maps.int64 ranges.int64_range
  int64_back = record { back = g.int64; fits = wrapped_fits }

  pub uint32_back : NumberBack Varint maps.uint32 ranges.uint32_range
  uint32_back = record { back = g.uint32; fits = λ v h. omega (arith, h) }

  pub uint64_back : NumberBack Varint maps.uint64 ranges.uint64_range
  uint64_back = record { back = g.uint64; fits = λ v h. h }

  pub sint32_back : NumberBack Varint maps.sint32 ranges.sint32_range
  sint32_back = record { back = g.sint32; fits = zigzag_narrow }

  pub sint64_back : NumberBack Varint maps.sint64 ranges.sint64_range
  sint64_back = record { back = g.sint64; fits = zigzag_fits }

  pub bool_back : NumberBack Varint maps.bool ranges.bool_range
  bool_back = record { back = g.bool; fits = truth_fits }

  pub fixed32_back : NumberBack Fixed32 maps.fixed32 ranges.fixed32_range
  fixed32_back = record { back = g.fixed32; fits = λ v h. h }

  pub fixed64_back : NumberBack Fixed64 maps.fixed64 ranges.fixed64_range
  fixed64_back = record { back = g.fixed64; fits = λ v h. h }

  pub sfixed32_back : NumberBack Fixed32 maps.sfixed32 ranges.sfixed32_range
  sfixed32_back = record { back = g.sfixed32; fits = half_fits }

  pub sfixed64_back : NumberBack Fixed64 maps.sfixed64 ranges.sfixed64_range
  sfixed64_back = record { back = g.sfixed64; fits = wrapped_fits }

  pub float_back : NumberBack Fixed32 float ranges.float_range
  float_back = record { back = λ v h. refl; fits = λ v h. h }

  pub double_back : NumberBack Fixed64 double ranges.double_range
  double_back = record { back = λ v h. refl; fits = λ v h. h }

  pub enum_back : {E : Type 0} (number : E → ℤ) (of_number : ℤ → Option E)
      → NumberBack Varint (open_enum number of_number) (enum_range number of_number)
  enum_back number of_number = record {
    back = λ v h.
        ap (λ k. known_or (of_number k) k) (g.int32 (number_of number v) h.fits) ∙ h.is;
    fits = λ v h. narrow_fits (number_of number v) h.fits;
  }

-- ---- as scalar types

pub numeric_back : {V : Type 0} {form : Form} {map : ValueMap V} {r : Range V}
    → NumberBack form map r → ScalarBack (numeric form map) r.Holds
numeric_back {V} {form} {map} {r} b = number_back form map r.Holds b.back b.fits

pub string_back : ScalarBack texts.string ranges.string_range.Holds
string_back = bytes_back IsUtf8

pub any_bytes_back : ScalarBack texts.any_bytes ranges.any_bytes_range.Holds
any_bytes_back = bytes_back (λ b. Unit {0})
