use Rattle.std.proofs.Common.{drop, ap, sym, ◌∙◌}
use Rattle.std.specs.Prelude.{string_bytes}
use Rattle.wire_protojson.proofs.Refusing.{refused_meaning}
use Rattle.wire_jsontimes.specs.Timestamps.{MeansTimestamp, timestamp_of}
use Rattle.wire_jsontimes.proofs.Reading.{timestamp_is_string, timestamp_meant, no_timestamp, refused_string}
use Rattle.wire_jsontimes.proofs.timestamp.read_timestamp.Goals as goal

pub returns-in-Some-clause-ok : goal.returns-in-Some-clause-ok
returns-in-Some-clause-ok c =
    let (json, reads, means) = c.in-Ok.ensures.ok in
    let t = c.in-Some.timestamp in
    let bytes = string_bytes c.in-Ok.string in
    let read = ap timestamp_of (sym (c.as_bytes.ensures.value ∙ c.as_str.ensures.value))
    ∙ c.in-Some.ensures in
    (json, reads, timestamp_meant json bytes (t.seconds, t.nanos) means read)

pub returns-in-Ok-clause-err : goal.returns-in-Ok-clause-err
returns-in-Ok-clause-err c =
    let text = c.args.text.now in
    let (json, reads, means) = c.in-Ok.ensures.ok in
    let bytes = string_bytes c.in-Ok.string in
    let none = ap timestamp_of (sym (c.as_bytes.ensures.value ∙ c.as_str.ensures.value))
    ∙ c.in-None.ensures in
    refused_meaning MeansTimestamp text c.args.at json (drop c.in-Ok.after text) c.no_value.result
    c.no_value.ensures reads (no_timestamp json bytes means none)

pub returns-clause-err : goal.returns-clause-err
returns-clause-err c =
    let text = c.args.text.now in
    refused_string MeansTimestamp timestamp_is_string text (drop c.args.at text) c.in-Err.error
    c.in-Err.ensures.err
