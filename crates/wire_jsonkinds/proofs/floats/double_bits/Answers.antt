use Rattle.std.proofs.lemmas.Float.{T_from_true}
use Rattle.wire_jsonkinds.proofs.Bits.{double_kept}
use Rattle.wire_jsonkinds.proofs.floats.double_bits.Goals as goal

pub returns : goal.returns
returns c =
    double_kept c.from_f64.result.bits c.args.value c.from_f64.ensures
    (T_from_true _ c.well_formed.0.1)
