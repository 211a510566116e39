use Rattle.std.proofs.Common.{ap, sym, ◌∙◌}
use Rattle.std.specs.Float.{binary32}
use Rattle.std.proofs.lemmas.Float.{T_from_true}
use lib.Dec.{eqb→eq}
use lib.Ieee.{of_bits}
use lib.Ieee.Bits.{of_bits-to_bits}
use Rattle.wire_dump.proofs.float_text.is_same_float.Goals as goal

pub returns-then-not-is_nan-2 : goal.returns-then-not-is_nan-2
returns-then-not-is_nan-2 c = λ e.
    sym (of_bits-to_bits binary32 c.args.x (T_from_true _ c.well_formed.0.1))
    ∙ ap (of_bits binary32) (eqb→eq _ _ (T_from_true _ e))
    ∙ of_bits-to_bits binary32 c.args.y (T_from_true _ c.well_formed.1.0.1)
