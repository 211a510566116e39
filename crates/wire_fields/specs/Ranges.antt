-- Which values of a field or a message are read back once they are written, and the charge of that.
use Rattle.std.proofs.Common.{◌≡◌, ℕ, ◌^◌, ◌<◌, List, Bool, false}
use Rattle.std.specs.Cmp.Lexicographic.{slice_cmp}
use Rattle.std.specs.Int.{w32, w64}
use Rattle.std.specs.Ordering.{nat_cmp, int_cmp, bool_cmp}
use Rattle.std.specs.Prelude.{ℤ, FitsSigned, IsUtf8, Option, Some, ⊤}
use Rattle.std.specs.declared.cmp.Ordering.{Ordering}
use Rattle.wire_codec.specs.Charge.{charge}
use Rattle.wire_codec.specs.EnumValue.{EnumValue}
use Rattle.wire_codec.specs.EnumValue.TheVariants.{Known}
use Rattle.wire_codec.specs.Enumeration.{number_of, known_or}
use Rattle.wire_codec.specs.Field.{Payload, Fields}
use Rattle.wire_codec.specs.Limits.{Charge, both, nested, no_charge}
use Rattle.wire_codec.specs.ValueMap.{ValueMap, bool}
use Rattle.wire_fields.specs.declared.floats.FloatBits.{FloatBits}
use Rattle.wire_fields.specs.declared.floats.DoubleBits.{DoubleBits}
use Rattle.wire_fields.specs.declared.form.Form.{Form}
use Rattle.wire_fields.specs.declared.form.Form.TheVariants.{Varint}
use Rattle.wire_fields.specs.Back.{AreOthers}
use Rattle.wire_fields.specs.MapsBack.{Ascend, AreEntries, entries_charge}
use Rattle.wire_fields.specs.MessageBack.{IsSmall, AllAreSmall, once_charge, each_charge}
use Rattle.wire_fields.specs.Numbers.{numeric}
use Rattle.wire_fields.specs.PackedBack.{AreNumbers}
use Rattle.wire_fields.specs.Scalar.{ScalarType}
use Rattle.wire_fields.specs.ScalarBack.{IfThere, AllHold, Lengthy, places}
use Rattle.wire_fields.specs.Shape.{Owns, FieldKind, Lawful, Shape}
use Rattle.wire_fields.specs.Texts.{string}

pub record Range (V : Type 0) : Type 1 where
  pub Holds : V → Type 0
  pub charge_of : V → Charge

-- ---- scalar types: values that their type of Rust has

abbrev pub uncharged : {V : Type 0} → (V → Type 0) → Range V
uncharged Holds = record { Holds = Holds; charge_of = λ v. no_charge }

abbrev pub int32_range : Range ℤ
int32_range = uncharged (FitsSigned w32)

abbrev pub int64_range : Range ℤ
int64_range = uncharged (FitsSigned w64)

abbrev pub uint32_range : Range ℕ
uint32_range = uncharged (λ v. v < 2 ^ 32)

abbrev pub uint64_range : Range ℕ
uint64_range = uncharged (λ v. v < 2 ^ 64)

abbrev pub sint32_range : Range ℤ
sint32_range = int32_range

abbrev pub sint64_range : Range ℤ
sint64_range = int64_range

abbrev pub fixed32_range : Range ℕ
fixed32_range = uint32_range

abbrev pub fixed64_range : Range ℕ
fixed64_range = uint64_range

abbrev pub sfixed32_range : Range ℤ
sfixed32_range = int32_range

abbrev pub sfixed64_range : Range ℤ
sfixed64_range = int64_range

abbrev pub bool_range : Range Bool
bool_range = uncharged (λ v. Unit {0})

abbrev pub float_range : Range FloatBits
float_range = uncharged (λ v. v.bits < 2 ^ 32)

abbrev pub double_range : Range DoubleBits
double_range = uncharged (λ v. v.bits < 2 ^ 64)

abbrev pub string_range : Range (List ℕ)
string_range = uncharged (Lengthy IsUtf8)

abbrev pub any_bytes_range : Range (List ℕ)
any_bytes_range = uncharged (Lengthy (λ b. Unit {0}))

-- a value whose number has 32 bits, and which is the enum's own where the enum has the number
pub record IsOpen {E : Type 0} (number : E → ℤ) (of_number : ℤ → Option E) (v : EnumValue E)
    : Type 0 where
  pub fits : FitsSigned w32 (number_of number v)
  pub is : known_or (of_number (number_of number v)) (number_of number v) ≡ v

abbrev pub enum_range : {E : Type 0} → (E → ℤ) → (ℤ → Option E) → Range (EnumValue E)
enum_range number of_number = uncharged (IsOpen number of_number)

-- a value that the enum has, whose number has 32 bits
pub record IsClosed {E : Type 0} (number : E → ℤ) (of_number : ℤ → Option E) (v : EnumValue E)
    : Type 0 where
  pub value : E
  pub is : v ≡ Known value
  pub fits : FitsSigned w32 (number value)
  pub found : of_number (number value) ≡ Some value

abbrev pub closed_range : {E : Type 0} → (E → ℤ) → (ℤ → Option E) → Range (EnumValue E)
closed_range number of_number = uncharged (IsClosed number of_number)

-- ---- presence

abbrev pub optional_range : {V : Type 0} → Range V → Range (Option V)
optional_range r = uncharged (IfThere r.Holds)

abbrev pub repeated_range : {V : Type 0} → ℕ → Range V → Range (List V)
repeated_range place r = record { Holds = AllHold r.Holds; charge_of = places place }

abbrev pub packed_range : {V : Type 0} → Form → ValueMap V → Range V → Range (List V)
packed_range form values r = uncharged (AreNumbers form values r.Holds)

abbrev pub unpacked_range : {V : Type 0} → Range V → Range (List V)
unpacked_range r = uncharged (AllHold r.Holds)

-- ---- messages: of a size that a message may have, and each a level down

abbrev pub always_range : {V : Type 0} → Shape V → Range V → Range V
always_range s r = record {
  Holds = IsSmall s.records r.Holds;
  charge_of = λ v. nested (r.charge_of v);
}

abbrev pub once_range : {V : Type 0} → Shape V → Range V → Range (Option V)
once_range s r = record {
  Holds = IfThere (IsSmall s.records r.Holds);
  charge_of = once_charge r.charge_of;
}

abbrev pub each_range : {V : Type 0} → ℕ → Shape V → Range V → Range (List V)
each_range place s r = record {
  Holds = AllAreSmall s.records r.Holds;
  charge_of = each_charge place r.charge_of;
}

-- ---- maps: their keys ascend

abbrev pub map_range : {K V : Type 0} → ℕ → (K → K → Ordering) → ScalarType K → FieldKind V → Range K
    → Range V → Range (List (K × V))
map_range place order key value r q = record {
  Holds = λ es. AreEntries key value r.Holds q.Holds q.charge_of es × Ascend order es;
  charge_of = entries_charge key value r.Holds q.Holds q.charge_of place;
}

abbrev pub text_map_range : {V : Type 0} → ℕ → Lawful V → Range V → Range (List (List ℕ × V))
text_map_range place value = map_range place (slice_cmp nat_cmp) string value.kind string_range

abbrev pub unsigned_map_range : {V : Type 0} → ℕ → Form → ValueMap ℕ → Lawful V → Range ℕ → Range V
    → Range (List (ℕ × V))
unsigned_map_range place form values value =
    map_range place nat_cmp (numeric form values) value.kind

abbrev pub signed_map_range : {V : Type 0} → ℕ → Form → ValueMap ℤ → Lawful V → Range ℤ → Range V
    → Range (List (ℤ × V))
signed_map_range place form values value =
    map_range place int_cmp (numeric form values) value.kind

abbrev pub bool_map_range : {V : Type 0} → ℕ → Lawful V → Range V → Range (List (Bool × V))
bool_map_range place value = map_range place bool_cmp (numeric Varint bool) value.kind bool_range

-- ---- a message as a tree of fields

abbrev pub pair_range : {A B : Type 0} → Range A → Range B → Range (A × B)
pair_range r q = record {
  Holds = λ m. r.Holds m.0 × q.Holds m.1;
  charge_of = λ m. both (r.charge_of m.0) (q.charge_of m.1);
}

abbrev pub NotOwned : Owns → ℕ → Type 0
NotOwned owns n = (p : Payload) → owns n p ≡ false

-- unknown fields in range, none of which has a number that these own
abbrev pub others_range : Owns → Range Fields
others_range owns = record { Holds = AreOthers (NotOwned owns); charge_of = charge }

-- a message that knows no field
abbrev pub unknown_range : Range Fields
unknown_range = others_range (λ n p. false)

-- no unknown fields
abbrev pub dropped_range : Range ⊤
dropped_range = uncharged (λ m. Unit {0})
