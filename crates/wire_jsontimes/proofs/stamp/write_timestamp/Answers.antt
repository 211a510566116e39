use Rattle.std.proofs.Common.{refl, ◌∙◌}
use Rattle.wire_json.specs.Json.{string}
use Rattle.wire_jsontimes.specs.Timestamps.{timestamp_text}
use Rattle.wire_jsontimes.proofs.stamp.write_timestamp.Goals as goal

pub returns-clause-ok : goal.returns-clause-ok
returns-clause-ok c =
    let s = c.stamp_of.result in
    let same = c.as_str.ensures.value ∙ c.in_ok-text.ensures in (
      string (timestamp_text s.year s.month s.day s.clock s.nanos),
      (s.year, s.month, s.day, s.clock, s.nanos, c.stamp_of.ensures, refl),
      rw same at c.in_ok-write_string.ensures.ok,
    )
