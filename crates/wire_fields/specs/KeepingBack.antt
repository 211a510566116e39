-- Fields that leave records of other wire types are read back: what is written of a value has the
-- field's own.
use Rattle.std.proofs.Common.{◌≡◌, ℕ, Bool, true, false, refl, sym, subst, List, [], ◌∷◌}
use Rattle.std.specs.Prelude.{Some, None}
use Rattle.wire_codec.specs.Field.{Payload, Fields, type_of, none, field}
use Rattle.wire_codec.specs.Laws.{FieldsArePlain}
use Rattle.wire_codec.specs.Records.{Records, plain, plain_payload}
use Rattle.wire_codec.specs.ValueMap.{ValueMap}
use Rattle.wire_codec.specs.WireType.TheVariants.{LengthDelimited}
use Rattle.wire_fields.specs.declared.form.Form.{Form}
use Rattle.wire_fields.specs.declared.leaving.OwnTypes.{OwnTypes}
use Rattle.wire_fields.specs.Back.{AllHave, all_joined, plain_joined, same_owned}
use Rattle.wire_fields.specs.Leaving.{has_type, of_types, leaving_types}
use Rattle.wire_fields.specs.LeavingBack.{ReturnedBeside, Leaves, leaving_back, other_leaves}
use Rattle.wire_fields.specs.Messages.{Encoding, once_in, each_in, message_each}
use Rattle.wire_fields.specs.Numbers.{number_payload, numeric}
use Rattle.wire_fields.specs.Packed.{packed_kind, unpacked_kind}
use Rattle.wire_fields.specs.Presence.{implicit, optional, repeated, unless}
use Rattle.wire_fields.specs.Presence.{each_record}
use Rattle.wire_fields.specs.Ranges.{Range}
use Rattle.wire_fields.specs.Returned.{Returned}
use Rattle.wire_fields.specs.Scalar.{ScalarType, scalar_record}
use Rattle.wire_fields.specs.Shape.{Owns, FieldKind, Lawful, Shape, known}

-- each record is the owner's
abbrev pub AllOwn : Owns → Fields → Type 0
AllOwn own = AllHave (λ n p. own n p ≡ true)

-- the records of a kind have these
abbrev pub KindTyped : {V : Type 0} → FieldKind V → OwnTypes → Type 0
KindTyped {V} k types = (n : ℕ) (m : V) → AllOwn (of_types types) (plain (k.records n m))

abbrev pub types_returned : {V : Type 0} (types : OwnTypes) (n : ℕ) (f : Lawful V) (r : Range V)
    → Returned (known n f) r → KindTyped f.kind types → ReturnedBeside (leaving_types types n f) r
types_returned types n f r x typed =
    leaving_back (of_types types) (known n f) r x (λ m holds. typed n m)

-- one record of a value of a scalar type
pub scalar_owned : {V : Type 0} → FieldsArePlain → (own : Owns) (t : ScalarType V) (n : ℕ) (v : V)
    → own n (t.payload v) ≡ true → AllOwn own (plain (scalar_record t n v))
scalar_owned same own t n v is =
    subst (AllOwn own) (sym (same.plain (field n (t.payload v) none))) (is, tt)

-- ---- values of scalar types

module _ (types : OwnTypes) (same : FieldsArePlain) {V : Type 0} (t : ScalarType V)
    (is : (v : V) → has_type types (type_of (t.payload v)) ≡ true) where
  unless_typed : (b : Bool) (n : ℕ) (v : V)
      → AllOwn (of_types types) (plain (unless b (scalar_record t n v)))
  unless_typed true n v = tt
  unless_typed false n v = scalar_owned same (of_types types) t n v (is v)

  pub implicit_typed : KindTyped (implicit t).kind types
  implicit_typed n v = unless_typed (t.is_default v) n v

  pub optional_typed : KindTyped (optional t).kind types
  optional_typed n None = tt
  optional_typed n (Some v) = scalar_owned same (of_types types) t n v (is v)

  records_typed : (n : ℕ) (vs : List V) → AllOwn (of_types types) (plain (each_record t n vs))
  records_typed n [] = tt
  records_typed n (v ∷ vs) =
      subst (AllOwn (of_types types)) (sym (plain_joined (scalar_record t n v) (each_record t n vs)))
      (all_joined (λ k p. of_types types k p ≡ true) (plain (scalar_record t n v))
      (plain (each_record t n vs))
      (scalar_owned same (of_types types) t n v (is v)) (records_typed n vs))

  pub repeated_typed : (place : ℕ) → KindTyped (repeated place t).kind types
  repeated_typed place n vs = records_typed n vs

-- ---- lists of numbers

pub unpacked_typed : {V : Type 0} (types : OwnTypes) → FieldsArePlain → (form : Form)
    (values : ValueMap V)
    → ((v : V) → has_type types (type_of (number_payload form (values.enc v))) ≡ true)
    → KindTyped (unpacked_kind form values) types
unpacked_typed types same form values is n vs =
    records_typed types same (numeric form values) is n vs

pub packed_typed : {V : Type 0} (types : OwnTypes) (form : Form) (values : ValueMap V)
    → has_type types LengthDelimited ≡ true → KindTyped (packed_kind form values) types
packed_typed types form values is n [] = tt
packed_typed types form values is n (v ∷ vs) = (is, tt)

-- ---- messages

module _ {V : Type 0} (types : OwnTypes) (encoding : Encoding) (records : V → Records)
    (is : (rs : Records) → has_type types (type_of (plain_payload (encoding.payload rs))) ≡ true)
  where
    pub messages_typed : (n : ℕ) (vs : List V)
        → AllOwn (of_types types) (plain (message_each encoding records n vs))
    messages_typed n [] = tt
    messages_typed n (v ∷ vs) = (is (records v), messages_typed n vs)

module _ {V : Type 0} (types : OwnTypes) (encoding : Encoding) (s : Shape V)
    (is : (rs : Records) → has_type types (type_of (plain_payload (encoding.payload rs))) ≡ true)
  where
    pub once_typed : KindTyped (once_in encoding s).kind types
    once_typed n None = tt
    once_typed n (Some v) = (is (s.records v), tt)

    pub each_typed : (place : ℕ) → KindTyped (each_in place encoding s).kind types
    each_typed place n vs = messages_typed types encoding s.records is n vs

-- ---- records that are left

-- of another wire type
pub types_leaves : {V : Type 0} (types : OwnTypes) (n : ℕ) (f : Lawful V) (p : Payload)
    → has_type types (type_of p) ≡ false → Leaves (leaving_types types n f) n p
types_leaves types n f p other =
    other_leaves (of_types types) (known n f) n p (same_owned n n refl) other
