-- What decoding leaves of each kind of field is in range.
use Rattle.std.proofs.Common.{◌≡◌, inl, inr, ℕ, ◌^◌, ◌+◌, ◌-◌, ◌*◌, ◌/◌, ◌%◌, ◌<◌, Bool, true, false, if◌then◌else◌, nat_lt, refl, sym, ap, ◌∙◌, subst, arith, List, [], ◌∷◌, ◌++◌, length}
use Rattle.std.proofs.lemmas.Bool.Decides.{nat_tests}
use Rattle.std.proofs.lemmas.Int.{ints}
use Rattle.std.proofs.lemmas.Str.{IsUtf8-nil}
use Rattle.std.specs.Int.{w32, w64}
use Rattle.std.specs.Prelude.{ℤ, pos, neg_ℤ, FitsSigned, IsUtf8, Option, Some, None, map}
use Rattle.wire_codec.specs.Enumeration.{known_or}
use Rattle.wire_codec.specs.Field.{Payload}
use Rattle.wire_codec.specs.InRange.{IsPayloadFitting}
use Rattle.wire_codec.specs.Limits.{Charge}
use Rattle.wire_codec.specs.Packed.{SpellsEach}
use Rattle.wire_codec.specs.ValueMap as maps
use Rattle.wire_codec.specs.ValueMap.{ValueMap}
use Rattle.wire_codec.proofs.Fitting.{AreBytes, bytes_front, bytes_behind, fixed32_fits, fixed64_fits}
use Rattle.wire_fields.specs.declared.form.Form.{Form}
use Rattle.wire_fields.specs.declared.form.Form.TheVariants.{Varint, Fixed64, Fixed32}
use Rattle.wire_fields.specs.Enums.{open_enum}
use Rattle.wire_fields.specs.Floats.{float, double}
use Rattle.wire_fields.specs.Numbers.{number_payload, numeric}
use Rattle.wire_fields.specs.Packed.{IsNumberText, packed_text, packed_records, packed_kind, unpacked_kind}
use Rattle.wire_fields.specs.Presence.{implicit, optional, always, repeated}
use Rattle.wire_fields.specs.Ranges as ranges
use Rattle.wire_fields.specs.Ranges.{Range, uncharged, enum_range, packed_range, unpacked_range, optional_range}
use Rattle.wire_fields.specs.Ranges.{repeated_range}
use Rattle.wire_fields.specs.Scalar.{ScalarType}
use Rattle.wire_fields.specs.ScalarBack.{AllHold, IfThere, Lengthy}
use Rattle.wire_fields.specs.Sound.{IsSound, HasBytes}
use Rattle.wire_fields.specs.Short.{AreShort}
use Rattle.wire_fields.specs.Stays.{KindStays}
use Rattle.wire_fields.specs.Texts as texts

-- ---- scalar types

-- a value that a payload in range sets is in range
pub record ScalarStays {V : Type 0} (t : ScalarType V) (r : Range V) : Type 0 where
  pub start : r.Holds t.default
  pub sets : (p : Payload) (v : V) → IsPayloadFitting p → t.Sets p v → r.Holds v

-- numbers of this form are read as values in range
pub record NumberStays {V : Type 0} (form : Form) (values : ValueMap V) (r : Range V) : Type 0 where
  pub made : (x : ℕ) → IsPayloadFitting (number_payload form x) → r.Holds (values.dec x)

zero_fits : (form : Form) → IsPayloadFitting (number_payload form 0)
zero_fits Varint = omega arith
zero_fits Fixed64 = omega arith
zero_fits Fixed32 = omega arith

pub numeric_stays : {V : Type 0} {form : Form} {values : ValueMap V} {r : Range V}
    → NumberStays form values r → ScalarStays (numeric form values) r
numeric_stays {V} {form} {values} {r} h = record {
  start = h.made 0 (zero_fits form);
  sets = λ p v fits set. subst r.Holds (sym set.is)
      (h.made set.number (subst IsPayloadFitting set.has fits));
}

bytes_stay : (IsText : List ℕ → Type 0) → IsText []
    → ScalarStays (texts.length_delimited IsText) (uncharged (Lengthy IsText))
bytes_stay IsText empty = record {
  start = record { text = empty; short = omega arith };
  sets = λ p v fits set.
      record { text = set.holds; short = subst IsPayloadFitting set.has fits };
}

pub string_stays : ScalarStays texts.string ranges.string_range
string_stays = bytes_stay IsUtf8 IsUtf8-nil

pub any_bytes_stay : ScalarStays texts.any_bytes ranges.any_bytes_range
any_bytes_stay = bytes_stay (λ b. Unit {0}) tt

-- ---- numbers

lower_half : (y : ℕ) (low : Bool) → nat_lt (2 * y) (2 ^ 32) ≡ low → y < 2 ^ 32
    → FitsSigned w32 (if low then pos y else neg_ℤ (pos (2 ^ 32 - y)))
lower_half y true is small = grind (arith, nat_tests)
lower_half y false is small = grind (arith, nat_tests, ints)

lower_half_of_64 : (y : ℕ) (low : Bool) → nat_lt (2 * y) (2 ^ 64) ≡ low → y < 2 ^ 64
    → FitsSigned w64 (if low then pos y else neg_ℤ (pos (2 ^ 64 - y)))
lower_half_of_64 y true is small = grind (arith, nat_tests)
lower_half_of_64 y false is small = grind (arith, nat_tests, ints)

even_or_odd : (x : ℕ) (even : Bool) → x < 2 ^ 64
    → FitsSigned w64 (if even then pos (x / 2) else neg_ℤ (pos ((x + 1) / 2)))
even_or_odd x true small = omega arith
even_or_odd x false small = omega (arith, ints)

even_or_odd_of_32 : (x : ℕ) (even : Bool) → x < 2 ^ 32
    → FitsSigned w32 (if even then pos (x / 2) else neg_ℤ (pos ((x + 1) / 2)))
even_or_odd_of_32 x true small = omega arith
even_or_odd_of_32 x false small = omega (arith, ints)

pub int32_fits : (x : ℕ) → FitsSigned w32 (maps.int32.dec x)
int32_fits x = lower_half (x % 2 ^ 32) _ refl (omega arith)

pub sint64_fits : (x : ℕ) → x < 2 ^ 64 → FitsSigned w64 (maps.sint64.dec x)
sint64_fits x small = even_or_odd x _ small

pub int32_stays : NumberStays Varint maps.int32 ranges.int32_range
int32_stays = record { made = λ x fits. int32_fits x }

pub int64_stays : NumberStays Varint maps.int64 ranges.int64_range
int64_stays = record { made = λ x fits. lower_half_of_64 x _ refl fits }

pub uint32_stays : NumberStays Varint maps.uint32 ranges.uint32_range
uint32_stays = record { made = λ x fits. omega arith }

pub uint64_stays : NumberStays Varint maps.uint64 ranges.uint64_range
uint64_stays = record { made = λ x fits. fits }

pub sint32_stays : NumberStays Varint maps.sint32 ranges.sint32_range
sint32_stays = record { made = λ x fits. even_or_odd_of_32 (x % 2 ^ 32) _ (omega arith) }

pub sint64_stays : NumberStays Varint maps.sint64 ranges.sint64_range
sint64_stays = record { made = sint64_fits }

pub bool_stays : NumberStays Varint maps.bool ranges.bool_range
bool_stays = record { made = λ x fits. tt }

pub fixed32_stays : NumberStays Fixed32 maps.fixed32 ranges.fixed32_range
fixed32_stays = record { made = λ x fits. fits }

pub fixed64_stays : NumberStays Fixed64 maps.fixed64 ranges.fixed64_range
fixed64_stays = record { made = λ x fits. fits }

pub sfixed32_stays : NumberStays Fixed32 maps.sfixed32 ranges.sfixed32_range
sfixed32_stays = record { made = λ x fits. lower_half x _ refl fits }

pub sfixed64_stays : NumberStays Fixed64 maps.sfixed64 ranges.sfixed64_range
sfixed64_stays = record { made = λ x fits. lower_half_of_64 x _ refl fits }

pub float_stays : NumberStays Fixed32 float ranges.float_range
float_stays = record { made = λ x fits. fits }

pub double_stays : NumberStays Fixed64 double ranges.double_range
double_stays = record { made = λ x fits. fits }

module _ {E : Type 0} (number : E → ℤ) (of_number : ℤ → Option E)
    (keeps : (n : ℤ) (e : E) → of_number n ≡ Some e → number e ≡ n) where
  read_is_open : (n : ℤ) (o : Option E) → of_number n ≡ o → FitsSigned w32 n
      → (enum_range number of_number).Holds (known_or o n)
  read_is_open n None found fits = record {
    fits = fits;
    is = ap (λ o. known_or o n) found;
  }
  read_is_open n (Some e) found fits =
      let same = keeps n e found in
      record {
        fits = subst (FitsSigned w32) (sym same) fits;
        is = ap (λ k. known_or (of_number k) k) same ∙ ap (λ o. known_or o n) found;
      }

  -- an enum's values as their numbers are looked up
  pub enum_stays : NumberStays Varint (open_enum number of_number) (enum_range number of_number)
  enum_stays = record {
    made = λ x fits. read_is_open (maps.int32.dec x) _ refl (int32_fits x);
  }

-- ---- presence

module _ {V : Type 0} {t : ScalarType V} {r : Range V} (s : ScalarStays t r) where
  pub implicit_stays : KindStays (implicit t).kind r
  implicit_stays = record {
    Is = r.Holds;
    start = s.start;
    step = λ n p c m z sound h step. s.sets p z sound.fits step.1;
    holds = λ n m is short. is;
  }

  pub always_stays : KindStays (always t).kind r
  always_stays = record {
    Is = r.Holds;
    start = s.start;
    step = λ n p c m z sound h step. s.sets p z sound.fits step.1;
    holds = λ n m is short. is;
  }

  pub optional_stays : KindStays (optional t).kind (optional_range r)
  optional_stays = record {
    Is = IfThere r.Holds;
    start = tt;
    step = λ n p c m z sound h (charged, v, set, is).
        subst (IfThere r.Holds) (sym is) (s.sets p v sound.fits set);
    holds = λ n m is short. is;
  }

-- ---- many values

pub all_more : {V : Type 0} (Holds : V → Type 0) (vs ws : List V) → AllHold Holds vs
    → AllHold Holds ws → AllHold Holds (vs ++ ws)
all_more Holds [] ws h k = k
all_more Holds (v ∷ vs) ws h k = (h.0, all_more Holds vs ws h.1 k)

pub repeated_stays : {V : Type 0} {t : ScalarType V} {r : Range V} → ScalarStays t r → (place : ℕ)
    → KindStays (repeated place t).kind (repeated_range place r)
repeated_stays {V} {t} {r} s place = record {
  Is = AllHold r.Holds;
  start = tt;
  step = λ n p c m z sound h (charged, v, set, is).
      subst (AllHold r.Holds) (sym is)
      (all_more r.Holds m (v ∷ []) h (s.sets p v sound.fits set, tt));
  holds = λ n m is short. is;
}

-- the payload of a list of numbers is of a length that is written
pub packed_short : {V : Type 0} (form : Form) (values : ValueMap V) (n : ℕ) (vs : List V)
    → AreShort (packed_records form values n vs) → length (packed_text form values vs) < 2 ^ 64
packed_short form values n [] short = omega arith
packed_short form values n (v ∷ vs) short = omega (arith, short.0)

module _ {V : Type 0} (form : Form) (values : ValueMap V) (r : Range V)
    (h : NumberStays form values r) where
  number_fits : (form : Form) (x : ℕ) (t : List ℕ) → AreBytes t → IsNumberText form x t
      → IsPayloadFitting (number_payload form x)
  number_fits Varint x t all is = is.fits
  number_fits Fixed64 x t all is = fixed64_fits t x all is.1
  number_fits Fixed32 x t all is = fixed32_fits t x all is.1

  numbers_made : (xs : List ℕ) (t : List ℕ) → AreBytes t → SpellsEach (IsNumberText form) xs t
      → AllHold r.Holds (map values.dec xs)
  numbers_made [] t all spelled = tt
  numbers_made (x ∷ xs) t all (one, more, parts, is, rest) =
      let bytes = subst AreBytes parts all in (
        h.made x (number_fits form x one (bytes_front one more bytes) is),
        numbers_made xs more (bytes_behind one more bytes) rest,
      )

  numbers_stay : (n : ℕ) (p : Payload) (c : Charge) (m z : List V) → IsSound n p
      → AllHold r.Holds m → (packed_kind form values).takes m n p c z → AllHold r.Holds z
  numbers_stay n p c m z sound all (charged, inl one) =
      subst (AllHold r.Holds) (sym one.is)
      (all_more r.Holds m (one.value ∷ []) all (
        subst r.Holds (sym one.sets.is)
            (h.made one.sets.number (subst IsPayloadFitting one.sets.has sound.fits)),
        tt,
      ))
  numbers_stay n p c m z sound all (charged, inr more) =
      subst (AllHold r.Holds) (sym more.appends.appended)
      (all_more r.Holds m (map values.dec more.appends.numbers) all
      (numbers_made more.appends.numbers more.payload (subst HasBytes more.is sound.of_bytes)
      more.appends.spelled))

  pub packed_stays : KindStays (packed_kind form values) (packed_range form values r)
  packed_stays = record {
    Is = AllHold r.Holds;
    start = tt;
    step = numbers_stay;
    holds = λ n vs all short. record { each = all; short = packed_short form values n vs short };
  }

  pub unpacked_stays : KindStays (unpacked_kind form values) (unpacked_range r)
  unpacked_stays = record {
    Is = AllHold r.Holds;
    start = tt;
    step = numbers_stay;
    holds = λ n vs all short. all;
  }
