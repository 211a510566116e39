use Rattle.std.proofs.Common.{arith}
use Rattle.std.proofs.lemmas.Float.{not_nan_f32_bits}
use Rattle.wire_fields.proofs.floats.FloatBits.get.Goals as goal

pub float_from_bits-result : goal.float_from_bits-result
float_from_bits-result c = not_nan_f32_bits c.args.self.now.bits (omega arith)
