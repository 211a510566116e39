use Rattle.std.proofs.Common.{drop}
use Rattle.std.proofs.lemmas.Result.{err_from_is_err_and}
use Rattle.wire_jsonfields.proofs.FieldReads.{refused_nothing, scalar_within}
use Rattle.wire_jsontimes.specs.Durations.{MeansDuration}
use Rattle.wire_jsontimes.proofs.DurationBack.{duration_decided}
use Rattle.wire_well_known_json.proofs.times.DurationJsonJsonValue.read_json.Goals as goal

pub returns-in_err-read-clause-err : goal.returns-in_err-read-clause-err
returns-in_err-read-clause-err c =
    let p = err_from_is_err_and c.from_residual.result c.from_residual.ensures.1 in
    let text = c.args.text.now in
    rw (p.1, p.2) (refused_nothing MeansDuration text (drop c.args.at text) c.args._levels
    duration_decided c.in_err-read.field-0.0 c.in_err-read.ensures.err)

pub returns-clause-ok : goal.returns-clause-ok
returns-clause-ok c =
    let read = c.in_ok-read in
    let text = c.args.text.now in
    rw c.held_duration.ensures (scalar_within MeansDuration text (drop c.args.at text) c.args._levels
    duration_decided (read.read.seconds, read.read.nanos) (drop read.after text) read.ensures.ok)
