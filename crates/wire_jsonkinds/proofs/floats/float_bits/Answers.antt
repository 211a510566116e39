use Rattle.std.proofs.lemmas.Float.{T_from_true}
use Rattle.wire_jsonkinds.proofs.Bits.{float_kept}
use Rattle.wire_jsonkinds.proofs.floats.float_bits.Goals as goal

pub returns : goal.returns
returns c =
    float_kept c.from_f32.result.bits c.args.value c.from_f32.ensures
    (T_from_true _ c.well_formed.0.1)
