use Rattle.std.proofs.Common.{refl}
use Rattle.wire_json.specs.Json.{null}
use Rattle.wire_jsonfields.proofs.kind.MaybeJsonValue.write_json.Goals as goal

pub returns-in_ok-write_null-in-None-clause-ok : goal.returns-in_ok-write_null-in-None-clause-ok
returns-in_ok-write_null-in-None-clause-ok g c =
    (null, rw c.in-None.is refl, c.in_ok-write_null-in-None.ensures.ok)
