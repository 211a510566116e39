-- Fields that leave some records, or a part of these, to the unknown fields of their message.
use Rattle.std.proofs.Common.{◌≡◌, ap, ◌∙◌, sym}
use Rattle.std.specs.Prelude.{ℕ, Bool, true, false, ◌==◌, ◌||◌}
use Rattle.wire_codec.specs.Field.{Payload, Fields, type_of, none}
use Rattle.wire_codec.specs.Folds.{Step, IsSingle}
use Rattle.wire_codec.specs.Records.{Records, joined_records, of_fields}
use Rattle.wire_codec.specs.Tag.{wire_number}
use Rattle.wire_codec.specs.TakingLaws.{OneReading}
use Rattle.wire_codec.specs.WireType.{WireType}
use Rattle.wire_codec.specs.WireType.TheVariants.{Varint, Fixed64, LengthDelimited, StartGroup}
use Rattle.wire_codec.specs.WireType.TheVariants.{Fixed32}
use Rattle.wire_fields.specs.declared.leaving.OwnTypes.{OwnTypes}
use Rattle.wire_fields.specs.declared.leaving.OwnTypes.TheVariants.{One, OrPacked}
use Rattle.wire_fields.specs.Oneof.{choice, single_choice}
use Rattle.wire_fields.specs.Shape.{Owns, either, single_either, same_pair, keeps, keeps_single}
use Rattle.wire_fields.specs.Shape.{Lawful, Shape, known}

-- ---- beside the unknown fields

-- the value takes the records that are its own, and any other is kept
abbrev pub or_kept : {V : Type 0} → (Payload → Bool) → Step V → Step (V × Fields)
or_kept own takes = either (λ n p. own p) takes keeps

-- some fields of a message: the records that have their numbers, the default, the records of a
-- value, and what the value and the unknown fields make of a record
pub record Leaving (V : Type 0) : Type 1 where
  pub owns : Owns
  pub default : V
  pub records : V → Records
  pub takes : Step (V × Fields)
  pub single : OneReading → IsSingle takes

-- fields that leave the records that are not their own
abbrev pub leaving_other : {V : Type 0} → Owns → Shape V → Leaving V
leaving_other own s = record {
  owns = s.owns;
  default = s.default;
  records = s.records;
  takes = either own s.takes keeps;
  single = λ reading. single_either own s.takes keeps (s.single reading) keeps_single;
}

-- fields that leave nothing
abbrev pub leaving_none : {V : Type 0} → Shape V → Leaving V
leaving_none = leaving_other (λ n p. true)

-- ---- two parts

-- what the first part makes of a record, and the second
abbrev pub on_first : {A B : Type 0} → Step (A × Fields) → Step ((A × B) × Fields)
on_first step m n p c z = step (m.0.0, m.1) n p c (z.0.0, z.1) × (z.0.1 ≡ m.0.1)

abbrev pub on_second : {A B : Type 0} → Step (B × Fields) → Step ((A × B) × Fields)
on_second step m n p c z = step (m.0.1, m.1) n p c (z.0.1, z.1) × (z.0.0 ≡ m.0.0)

pub single_first : {A B : Type 0} (step : Step (A × Fields)) → IsSingle step
    → IsSingle (on_first {A = A} {B = B} step)
single_first {A} {B} step single m u z w n p c d h k =
    let same = single (m.0.0, m.1) (u.0.0, u.1) (z.0.0, z.1) (w.0.0, w.1) n p c d h.0 k.0 in (
      same.0,
      λ e. let part = same.1 (ap (λ (x : (A × B) × Fields). (x.0.0, x.1)) e) in
          same_pair z w
          (same_pair z.0 w.0 (ap (λ (x : A × Fields). x.0) part)
          (h.1 ∙ ap (λ (x : (A × B) × Fields). x.0.1) e ∙ sym k.1))
          (ap (λ (x : A × Fields). x.1) part),
    )

pub single_second : {A B : Type 0} (step : Step (B × Fields)) → IsSingle step
    → IsSingle (on_second {A = A} {B = B} step)
single_second {A} {B} step single m u z w n p c d h k =
    let same = single (m.0.1, m.1) (u.0.1, u.1) (z.0.1, z.1) (w.0.1, w.1) n p c d h.0 k.0 in (
      same.0,
      λ e. let part = same.1 (ap (λ (x : (A × B) × Fields). (x.0.1, x.1)) e) in
          same_pair z w
          (same_pair z.0 w.0 (h.1 ∙ ap (λ (x : (A × B) × Fields). x.0.0) e ∙ sym k.1)
          (ap (λ (x : B × Fields). x.0) part))
          (ap (λ (x : B × Fields). x.1) part),
    )

-- some fields, written before others
abbrev pub both_leaving : {A B : Type 0} → Leaving A → Leaving B → Leaving (A × B)
both_leaving a b = record {
  owns = λ n p. a.owns n p || b.owns n p;
  default = (a.default, b.default);
  records = λ m. joined_records (a.records m.0) (b.records m.1);
  takes = choice a.owns (on_first a.takes) (on_second b.takes);
  single = λ reading. single_choice a.owns (on_first a.takes) (on_second b.takes)
      (single_first a.takes (a.single reading)) (single_second b.takes (b.single reading));
}

-- ---- a message

-- the record is kept, and the fields stay as they are
abbrev pub keeps_beside : {V : Type 0} → Step (V × Fields)
keeps_beside m n p c z = keeps m.1 n p c z.1 × (z.0 ≡ m.0)

pub single_beside : {V : Type 0} → IsSingle (keeps_beside {V = V})
single_beside {V} m u z w n p c d h k =
    let same = keeps_single m.1 u.1 z.1 w.1 n p c d h.0 k.0 in (
      same.0,
      λ e. same_pair z w (h.1 ∙ ap (λ (x : V × Fields). x.0) e ∙ sym k.1)
          (same.1 (ap (λ (x : V × Fields). x.1) e)),
    )

-- these fields and the unknown ones, which are written last
abbrev pub with_unknown : {V : Type 0} → Leaving V → Shape (V × Fields)
with_unknown s = record {
  owns = λ n p. true;
  default = (s.default, none);
  records = λ m. joined_records (s.records m.0) (of_fields m.1);
  takes = choice s.owns s.takes keeps_beside;
  single = λ reading. single_choice s.owns s.takes keeps_beside (s.single reading) single_beside;
}

-- ---- records of other wire types

abbrev pub is_type : WireType → WireType → Bool
is_type t w = wire_number t == wire_number w

-- the field has records of this wire type
abbrev pub has_type : OwnTypes → WireType → Bool
has_type (One t) w = is_type t w
has_type (OrPacked t) w = is_type t w || is_type LengthDelimited w

-- a record has one of these
abbrev pub of_types : OwnTypes → Owns
of_types types n p = has_type types (type_of p)

-- one field of this number, which leaves the records of other wire types than these
abbrev pub leaving_types : {V : Type 0} → OwnTypes → ℕ → Lawful V → Leaving V
leaving_types types n f = leaving_other (of_types types) (known n f)

-- the numbers of a oneof, each with its wire types: that of a variant, and those of the others
abbrev pub own_where : Bool → Bool → Bool → Bool
own_where true own others = own
own_where false own others = others

abbrev pub own_at : OwnTypes → ℕ → Owns → Owns
own_at types k others n p = own_where (n == k) (has_type types (type_of p)) (others n p)

abbrev pub own_none : Owns
own_none n p = false

-- the wire types of each kind of field
abbrev pub of_varint : OwnTypes
of_varint = One Varint

abbrev pub of_fixed64 : OwnTypes
of_fixed64 = One Fixed64

abbrev pub of_fixed32 : OwnTypes
of_fixed32 = One Fixed32

abbrev pub of_bytes : OwnTypes
of_bytes = One LengthDelimited

abbrev pub of_group : OwnTypes
of_group = One StartGroup

abbrev pub of_varints : OwnTypes
of_varints = OrPacked Varint

abbrev pub of_fixed64s : OwnTypes
of_fixed64s = OrPacked Fixed64

abbrev pub of_fixed32s : OwnTypes
of_fixed32s = OrPacked Fixed32
