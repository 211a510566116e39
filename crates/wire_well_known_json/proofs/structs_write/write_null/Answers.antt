use Rattle.std.proofs.Common.{refl}
use Rattle.wire_json.specs.Json.{null}
use Rattle.wire_well_known_json.proofs.structs_write.write_null.Goals as goal

pub returns-clause-ok : goal.returns-clause-ok
returns-clause-ok c = (null, (tt, refl), c.in_ok-write_null.ensures.ok)
