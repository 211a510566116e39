-- Unknown fields that are not kept.
use Rattle.std.proofs.Common.{refl, sym, ◌∙◌}
use Rattle.std.specs.Prelude.{◌≡◌, true, ⊤}
use Rattle.wire_codec.specs.Charge.{payload_charge}
use Rattle.wire_codec.specs.Field.{Payload}
use Rattle.wire_codec.specs.Folds.{Step, IsSingle}
use Rattle.wire_codec.specs.Limits.{Charge, no_counts}
use Rattle.wire_codec.specs.Records.{none}
use Rattle.wire_fields.specs.Shape.{Shape}

-- what is passed over takes levels for the groups in it, and no count
abbrev pub levels_of : Payload → Charge
levels_of p = record { depth = (payload_charge p).depth; counts = no_counts }

-- the record is lost
abbrev pub drops : Step ⊤
drops m n p c z = c ≡ levels_of p

pub drops_single : IsSingle drops
drops_single m u z w n p c d h k = (h ∙ sym k, λ e. refl)

-- the unknown fields of a message that keeps none: they own every record that is left
abbrev pub dropped : Shape ⊤
dropped = record {
  owns = λ n p. true;
  default = tt;
  records = λ m. none;
  takes = drops;
  single = λ reading. drops_single;
}
