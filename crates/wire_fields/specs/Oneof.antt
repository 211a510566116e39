-- Oneofs: a value is one of several fields, or none of them.
use Rattle.std.proofs.Common.{◌≡◌, ap, ◌∙◌, sym, Bool, true, false}
use Rattle.std.specs.Prelude.{ℕ, ◌==◌, ◌||◌, Option}
use Rattle.wire_codec.specs.Field.{Payload}
use Rattle.wire_codec.specs.Folds.{Step, IsSingle}
use Rattle.wire_codec.specs.Limits.{Charge}
use Rattle.wire_codec.specs.Records.{Records}
use Rattle.wire_codec.specs.TakingLaws.{OneReading}
use Rattle.wire_fields.specs.Messages.{or_else}
use Rattle.wire_fields.specs.Shape.{Owns, on, Lawful, Shape}

-- some variants of a oneof: the records that are theirs, and what the whole value makes of these
pub record Variants (V : Type 0) : Type 1 where
  pub owns : Owns
  pub takes : Step V
  pub single : OneReading → IsSingle takes

-- the value of the variant that stands takes the record, or a default one where another stands;
-- then this variant stands
abbrev pub takes_variant : {V T : Type 0} → T → (V → Option T) → (T → V) → Step T → Step V
takes_variant {V} {T} start get set step m n p c z =
    (t : T) × step (or_else start (get m)) n p c t × (z ≡ set t)

-- a record that the first variants own is for these, and any other for the second
abbrev pub choice : {V : Type 0} → Owns → Step V → Step V → Step V
choice owns one other m n p c z = on (owns n p) (one m n p c z) (other m n p c z)

pub single_within : {V T : Type 0} (start : T) (get : V → Option T) (set : T → V) (step : Step T)
    → IsSingle step → IsSingle (takes_variant start get set step)
single_within start get set step single m u z w n p c d (t, h, is) (s, k, is_2) =
    let same = single (or_else start (get m)) (or_else start (get u)) t s n p c d h k in
    (same.0, λ e. is ∙ ap set (same.1 (ap (or_else start) (ap get e))) ∙ sym is_2)

single_at : {V : Type 0} (one other : Step V) → IsSingle one → IsSingle other → (b : Bool)
    → (m u z w : V) (n : ℕ) (p : Payload) (c d : Charge) → on b (one m n p c z) (other m n p c z)
    → on b (one u n p d w) (other u n p d w) → (c ≡ d) × (m ≡ u → z ≡ w)
single_at one other one_single other_single true m u z w n p c d h k =
    one_single m u z w n p c d h k
single_at one other one_single other_single false m u z w n p c d h k =
    other_single m u z w n p c d h k

pub single_choice : {V : Type 0} (owns : Owns) (one other : Step V) → IsSingle one → IsSingle other
    → IsSingle (choice owns one other)
single_choice owns one other one_single other_single m u z w n p c d h k =
    single_at one other one_single other_single (owns n p) m u z w n p c d h k

-- one variant: its number, its kind, and how it stands in the whole value
abbrev pub variant : {V T : Type 0} → ℕ → Lawful T → (V → Option T) → (T → V) → Variants V
variant n f get set = record {
  owns = λ k p. k == n;
  takes = takes_variant f.kind.default get set f.kind.takes;
  single = λ reading. single_within f.kind.default get set f.kind.takes (f.single reading);
}

-- some variants, or others
abbrev pub either_of : {V : Type 0} → Variants V → Variants V → Variants V
either_of a b = record {
  owns = λ n p. a.owns n p || b.owns n p;
  takes = choice a.owns a.takes b.takes;
  single = λ reading.
      single_choice a.owns a.takes b.takes (a.single reading) (b.single reading);
}

-- a oneof as fields of a message
abbrev pub oneof : {V : Type 0} → V → (V → Records) → Variants V → Shape V
oneof default records variants = record {
  owns = variants.owns;
  default = default;
  records = records;
  takes = variants.takes;
  single = variants.single;
}
