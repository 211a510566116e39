use Rattle.std.proofs.Common.{refl, sym, ◌∙◌}
use Rattle.std.specs.Float.{binary32}
use Rattle.std.proofs.lemmas.Float.{T_from_true}
use lib.Ieee.Bits.{of_bits-to_bits}
use Rattle.wire_protojson.proofs.Floats.{by_bits, float_zero_bits, nan_is_not_zero, zero_float}
use Rattle.wire_jsonfields.proofs.held_texts.is_zero_float.Goals as goal

pub returns-then-is_nan : goal.returns-then-is_nan
returns-then-is_nan c = nan_is_not_zero c.args.value (sym c.is_nan.ensures.value ∙ c.if-is_nan.true)

pub returns : goal.returns
returns c =
    by_bits binary32 float_zero_bits zero_float c.args.value
    (of_bits-to_bits binary32 c.args.value (T_from_true _ c.well_formed.0.1)) _ refl
