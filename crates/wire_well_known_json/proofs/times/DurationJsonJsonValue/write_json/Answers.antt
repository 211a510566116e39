use Rattle.std.proofs.Common.{◌≢◌, subst}
use Rattle.std.specs.Prelude.{IfErr}
use Rattle.wire_protojson.specs.declared.refusal.WriteError.TheVariants.{OutOfMemory}
use Rattle.wire_jsonfields.specs.Told.{HasNoTree}
use Rattle.wire_jsontimes.specs.Durations.{IsDurationTree}
use Rattle.wire_well_known_json.proofs.times.DurationJsonJsonValue.write_json.Goals as goal

pub returns-clause-no_text : goal.returns-clause-no_text
returns-clause-no_text c =
    subst
    (λ v. IfErr c.write_duration.result (λ e. e ≢ OutOfMemory → HasNoTree IsDurationTree v))
    c.json_duration.ensures c.write_duration.ensures.no_text
