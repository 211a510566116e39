-- What holds of times. Each statement is proved as the contract of a law of src/laws.rt.
use Rattle.std.specs.Prelude.{ℤ}
use Rattle.wire_json.specs.Json.{Json}
use Rattle.wire_protojson.specs.Laws.{IsDecided, IsReadAs}
use Rattle.wire_jsontimes.specs.Durations.{IsDurationTree, MeansDuration}
use Rattle.wire_jsontimes.specs.Timestamps.{IsTimestampTree, MeansTimestamp}

abbrev pub DurationReadsBack : Type 0
DurationReadsBack =
    (value : ℤ × ℤ) (json : Json) → IsDurationTree value json → IsReadAs MeansDuration value json

abbrev pub DurationIsDecided : Type 0
DurationIsDecided = IsDecided MeansDuration

abbrev pub TimestampReadsBack : Type 0
TimestampReadsBack =
    (value : ℤ × ℤ) (json : Json) → IsTimestampTree value json → IsReadAs MeansTimestamp value json

abbrev pub TimestampIsDecided : Type 0
TimestampIsDecided = IsDecided MeansTimestamp
