-- Timestamps and durations as seconds and nanoseconds.
use Rattle.std.proofs.Common.{◌≡◌}
use Rattle.std.specs.Prelude.{ℤ, pos}
use Rattle.wire_json.specs.Json.{Json, null}
use Rattle.wire_jsonfields.specs.Back.{ComesBack}
use Rattle.wire_jsonfields.specs.OneValues.{IsOneValued}
use Rattle.wire_jsontimes.specs.Durations.{IsDurationTree, MeansDuration}
use Rattle.wire_jsontimes.specs.Timestamps.{IsTimestampTree, MeansTimestamp}
use Rattle.wire_jsontimes.proofs.DurationBack.{duration_decided, duration_lawful, duration_means}
use Rattle.wire_jsontimes.proofs.TimestampBack.{timestamp_decided, timestamp_lawful, timestamp_means}
use Rattle.wire_well_known.specs.declared.duration.Duration.{Duration}
use Rattle.wire_well_known.specs.declared.timestamp.Timestamp.{Timestamp}

abbrev pub timestamp-json : Timestamp → ℤ × ℤ
timestamp-json m = (m.seconds, m.nanos)

abbrev pub duration-json : Duration → ℤ × ℤ
duration-json m = (m.seconds, m.nanos)

abbrev pub time-absent : ℤ × ℤ
time-absent = (pos 0, pos 0)

-- whatever text there is of a time is read as it
abbrev pub IsAnyTime : ℤ × ℤ → Type 0
IsAnyTime value = Unit {0}

pub one_timestamp : IsOneValued MeansTimestamp
one_timestamp = timestamp_decided.one_meaning

pub one_duration : IsOneValued MeansDuration
one_duration = duration_decided.one_meaning

pub timestamp_back : (v : ℤ × ℤ) → IsAnyTime v → ComesBack MeansTimestamp IsTimestampTree v
timestamp_back v any json tree = record {
  lawful = timestamp_lawful v json tree;
  means = timestamp_means v json tree;
  present = λ is. no_time json v is (timestamp_means v json tree);
}
  where
    no_time : (e : Json) (w : ℤ × ℤ) → e ≡ null → MeansTimestamp e w → ⊥
    no_time e w is means = rw is at means

pub duration_back : (v : ℤ × ℤ) → IsAnyTime v → ComesBack MeansDuration IsDurationTree v
duration_back v any json tree = record {
  lawful = duration_lawful v json tree;
  means = duration_means v json tree;
  present = λ is. no_time json v is (duration_means v json tree);
}
  where
    no_time : (e : Json) (w : ℤ × ℤ) → e ≡ null → MeansDuration e w → ⊥
    no_time e w is means = rw is at means
