use Rattle.wire_jsonkinds.proofs.Bits.{float_of_nan, not_zero}
use Rattle.wire_jsonkinds.proofs.floats.FloatJsonScalar.is_default.Goals as goal

pub returns-in-None : goal.returns-in-None
returns-in-None c = not_zero _ (float_of_nan c.args.held.now.bits c.in-None.ensures.none)
