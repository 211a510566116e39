-- Closed enums in a oneof: a number that the enum does not have is kept as an unknown field, and the
-- variant that stands stays.
use Rattle.std.proofs.Common.{refl}
use Rattle.std.specs.Prelude.{ℕ, ℤ, List, Option, None, ◌==◌}
use Rattle.wire_codec.specs.EnumValue.{EnumValue}
use Rattle.wire_codec.specs.Field.{Fields}
use Rattle.wire_codec.specs.Limits.{Limits}
use Rattle.wire_codec.specs.Taking.{TakesRecord, NotTaken}
use Rattle.wire_codec.specs.ValueMap.{int32}
use Rattle.wire_codec.specs.WireType.{WireType}
use Rattle.wire_fields.specs.Closed.{closes, closes_by, closes_single, sets_known, sorted}
use Rattle.wire_fields.specs.Leaving.{Leaving}
use Rattle.wire_fields.specs.Oneof.{choice, single_choice}

-- the enum's value takes the place of whatever stands
abbrev pub becomes : {E V : Type 0} → (EnumValue E → V) → V → EnumValue E → V
becomes set m e = set e

-- the fields of a oneof, of which the one of this number is of a closed enum
abbrev pub closing : {E V : Type 0} → ℕ → (ℤ → Option E) → (EnumValue E → V) → Leaving V
    → Leaving V
closing n of_number set s = record {
  owns = s.owns;
  default = s.default;
  records = s.records;
  takes = choice (λ k p. k == n) (closes_by (becomes set) of_number) s.takes;
  single = λ reading. single_choice (λ k p. k == n) (closes_by (becomes set) of_number) s.takes
      (closes_single of_number (becomes set)) (s.single reading);
}

-- what an empty field refuses, the oneof refuses
pub closing_untaken : {E V : Type 0} (of_number : ℤ → Option E) (set : EnumValue E → V)
    (l : Limits) (n : ℕ) (w : WireType) (m : V) (old : Fields) (bytes : List ℕ)
    → NotTaken (TakesRecord (closes of_number) l n w (None, old) bytes)
    → NotTaken (TakesRecord (closes_by (becomes set) of_number) l n w (m, old) bytes)
closing_untaken of_number set l n w m old bytes none c z rest h =
    let (x, has, charged, is) = h.step in
    none c (sorted sets_known n x (None, old) (of_number (int32.dec x))) rest (record {
      payload = h.payload;
      read = h.read;
      step = (x, has, charged, refl);
    })
