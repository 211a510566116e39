use Rattle.std.proofs.Common.{◌≢◌, subst}
use Rattle.std.specs.Prelude.{IfErr}
use Rattle.wire_protojson.specs.declared.refusal.WriteError.TheVariants.{OutOfMemory}
use Rattle.wire_jsonfields.specs.Told.{HasNoTree}
use Rattle.wire_jsontimes.specs.Timestamps.{IsTimestampTree}
use Rattle.wire_well_known_json.proofs.times.TimestampJsonJsonValue.write_json.Goals as goal

pub returns-clause-no_text : goal.returns-clause-no_text
returns-clause-no_text c =
    subst
    (λ v. IfErr c.write_timestamp.result (λ e. e ≢ OutOfMemory → HasNoTree IsTimestampTree v))
    c.json_timestamp.ensures c.write_timestamp.ensures.no_text
