use Rattle.std.proofs.Common.{refl, sym, ◌∙◌}
use Rattle.std.specs.Float.{binary64}
use Rattle.std.proofs.lemmas.Float.{T_from_true}
use lib.Ieee.Bits.{of_bits-to_bits}
use Rattle.wire_protojson.proofs.Floats.{by_bits, double_zero, nan_is_not_zero, zero_double}
use Rattle.wire_jsonfields.proofs.held_texts.is_zero_double.Goals as goal

pub returns-then-is_nan : goal.returns-then-is_nan
returns-then-is_nan c = nan_is_not_zero c.args.value (sym c.is_nan.ensures.value ∙ c.if-is_nan.true)

pub returns : goal.returns
returns c =
    by_bits binary64 double_zero zero_double c.args.value
    (of_bits-to_bits binary64 c.args.value (T_from_true _ c.well_formed.0.1)) _ refl
