use Rattle.std.proofs.Common.{drop, ap, sym, ◌∙◌}
use Rattle.std.specs.Prelude.{string_bytes}
use Rattle.wire_protojson.proofs.Refusing.{refused_meaning}
use Rattle.wire_jsontimes.specs.Durations.{MeansDuration, duration_of}
use Rattle.wire_jsontimes.proofs.Reading.{duration_is_string, no_duration, refused_string}
use Rattle.wire_jsontimes.proofs.duration.read_duration.Goals as goal

pub returns-in-Ok-clause-err : goal.returns-in-Ok-clause-err
returns-in-Ok-clause-err c =
    let text = c.args.text.now in
    let (json, reads, means) = c.in-Ok.ensures.ok in
    let bytes = string_bytes c.in-Ok.string in
    let none = ap duration_of (sym (c.as_bytes.ensures.value ∙ c.as_str.ensures.value))
    ∙ c.in-None.ensures in
    refused_meaning MeansDuration text c.args.at json (drop c.in-Ok.after text) c.no_value.result
    c.no_value.ensures reads (no_duration json bytes means none)

pub returns-clause-err : goal.returns-clause-err
returns-clause-err c =
    let text = c.args.text.now in
    refused_string MeansDuration duration_is_string text (drop c.args.at text) c.in-Err.error
    c.in-Err.ensures.err
