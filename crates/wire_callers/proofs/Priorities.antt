-- A priority, a number of explicit presence, is read back.
use Rattle.std.proofs.Common.{◌≡◌}
use Rattle.std.specs.Int.{w32}
use Rattle.std.specs.Prelude.{FitsSigned, Option, None, Some, option_map}
use Rattle.wire_codec.specs.Laws.{FieldsArePlain}
use Rattle.wire_codec.specs.Limits.{no_charge}
use Rattle.wire_codec.specs.LimitsLaws.{ChargesAddUp}
use Rattle.wire_codec.specs.ScalarLaws.{DecodesBack}
use Rattle.wire_codec.specs.ValueMap.{int32}
use Rattle.wire_fields.specs.declared.form.Form.TheVariants.{Varint}
use Rattle.wire_fields.specs.Back.{KindBack}
use Rattle.wire_fields.specs.Numbers.{numeric}
use Rattle.wire_fields.specs.Presence.{optional}
use Rattle.wire_fields.specs.ScalarBack.{IfThere, number_back, narrow_fits, optional_back}

pub priority_back : FieldsArePlain → ChargesAddUp → DecodesBack int32 (FitsSigned w32)
    → KindBack (optional (numeric Varint int32)).kind (IfThere (FitsSigned w32)) (λ o. no_charge)
priority_back same charges back =
    optional_back same charges (numeric Varint int32) (FitsSigned w32)
    (number_back Varint int32 (FitsSigned w32) back narrow_fits)

-- what is held is what is seen
pub same_option : {T : Type 0} (o : Option T) (v : T) → option_map (λ v. v) o ≡ Some v
    → o ≡ Some v
same_option None v h = absurd cc
same_option (Some x) v h = h
