use Rattle.std.specs.Float.{binary64}
use Rattle.std.specs.Prelude.{from_bits}
use Rattle.wire_jsonkinds.proofs.Bits.{double_of_nan}
use Rattle.wire_well_known_json.proofs.StructPuts.{nan_untold}
use Rattle.wire_well_known_json.proofs.structs_write.finite.Goals as goal

pub returns-in-None : goal.returns-in-None
returns-in-None c =
    let bits = c.args.number.now.bits in
    nan_untold (from_bits binary64 bits) (double_of_nan bits (rw c.in-None.is at c.get.ensures.none))
