-- Unknown fields that are passed over, and charged as if they were kept.
use Rattle.std.proofs.Common.{refl, sym, ◌∙◌}
use Rattle.std.specs.Prelude.{◌≡◌, true, ⊤, ℕ, List}
use Rattle.wire_codec.specs.Charge.{charge, payload_charge}
use Rattle.wire_codec.specs.Ending.{by_tag}
use Rattle.wire_codec.specs.Field.{Payload, Fields}
use Rattle.wire_codec.specs.Folds.{Step, IsSingle}
use Rattle.wire_codec.specs.Limits.{Limits, left_after}
use Rattle.wire_codec.specs.Records.{none}
use Rattle.wire_codec.specs.Taken.{TakesPayload, TakesUntil}
use Rattle.wire_codec.specs.WireType.{WireType}
use Rattle.wire_fields.specs.Shape.{Shape}

-- the record is charged as one that is kept
abbrev pub passes : Step ⊤
passes m n p c z = c ≡ payload_charge p

pub passes_single : IsSingle passes
passes_single m u z w n p c d h k = (h ∙ sym k, λ e. refl)

-- the unknown fields of a struct: they own every record that is left
abbrev pub passed_by : Shape ⊤
passed_by = record {
  owns = λ n p. true;
  default = tt;
  records = λ m. none;
  takes = passes;
  single = λ reading. passes_single;
}

-- ---- what is passed over within limits, and what it leaves of them

-- behind a tag (n, w) a payload stands at the front of old within the limits, is charged as an
-- unknown field, and new is what follows
abbrev pub IsPassedBy : Limits → Limits → ℕ → WireType → List ℕ → List ℕ → Type 0
IsPassedBy before after n w old new =
    (p : Payload) × TakesPayload (payload_charge p) before n w p old new
    × (after ≡ left_after before (payload_charge p))

-- the body of a group of field number n stands at the front of old within the limits, is charged as
-- unknown fields, and new is what follows its end tag
abbrev pub IsGroupPassedBy : Limits → Limits → ℕ → List ℕ → List ℕ → Type 0
IsGroupPassedBy before after n old new =
    (fs : Fields) × TakesUntil (charge fs) before (by_tag n) fs old new
    × (after ≡ left_after before (charge fs))
