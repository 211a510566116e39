use Rattle.std.proofs.Common.{refl, ◌∙◌}
use Rattle.wire_json.specs.Json.{string}
use Rattle.wire_jsontimes.specs.Durations.{duration_text}
use Rattle.wire_jsontimes.proofs.write.write_duration.Goals as goal

pub returns-in_ok-write_string-in-Some-clause-ok :
    goal.returns-in_ok-write_string-in-Some-clause-ok
returns-in_ok-write_string-in-Some-clause-ok c =
    let p = c.in-Some.parts in
    let same = c.as_str.ensures.value ∙ c.in_ok-text-in-Some.ensures in (
      string (duration_text p.negative p.whole p.nanos),
      (p.negative, p.whole, p.nanos, c.in-Some.ensures, refl),
      rw same at c.in_ok-write_string-in-Some.ensures.ok,
    )
