use Rattle.std.proofs.Common.{refl}
use Rattle.wire_json.specs.Json.{boolean}
use Rattle.wire_well_known_json.proofs.structs_write.write_truth.Goals as goal

pub returns-clause-ok : goal.returns-clause-ok
returns-clause-ok c = (boolean c.args.truth, (tt, refl), c.in_ok-write_bool.ensures.ok)
