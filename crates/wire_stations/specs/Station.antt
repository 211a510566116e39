-- `Station`, as contracts see it and as a struct shows it.
use Rattle.std.proofs.Common.{◌≡◌}
use Rattle.std.specs.Prelude.{Bool, List, Option, map, option_map, ℕ, ℤ, pos, [], false, ⊤}
use Rattle.wire_codec.specs.EnumValue.{EnumValue}
use Rattle.wire_codec.specs.Enumeration.{known_or}
use Rattle.wire_codec.specs.Field.{Fields}
use Rattle.wire_codec.specs.Records.{text}
use Rattle.wire_codec.specs.ValueMap.{bool, sint32}
use Rattle.wire_fields.specs.Enums.{open_enum}
use Rattle.wire_fields.specs.Messages.{embedded_each, embedded_once}
use Rattle.wire_fields.specs.Numbers.{numeric}
use Rattle.wire_fields.specs.Presence.{implicit, optional, repeated}
use Rattle.wire_fields.specs.Shape.{Lawful, Shape, known, two, unknown}
use Rattle.wire_fields.specs.Texts.{any_bytes, string}
use Rattle.wire_fields.specs.declared.form.Form.TheVariants.{Varint}
use Rattle.wire_report.specs.ReportLevel.{report_level-number, report_level-of}
use Rattle.wire_report.specs.ReportSample.{ReportSample-Value, report_sample-shape}
use Rattle.wire_report.specs.declared.report_level.ReportLevel.{ReportLevel}
use Rattle.wire_structs.specs.Counts.{count_seen, embedded_count, repeated_count}
use Rattle.wire_structs.specs.Flags.{flagged}
use Rattle.wire_structs.specs.Passed.{passed_by}
use Rattle.wire_stations.specs.ReportSample.{ReportSample-IsZero, ReportSample-Shown}
use Rattle.wire_stations.specs.ReportSample.{report_sample-seen, report_sample-shown}
use Rattle.wire_stations.specs.ReportSample.{report_sample-struct, report_sample-written}
use Rattle.wire_stations.specs.StationPower.{StationPower-IsZero, StationPower-Of}
use Rattle.wire_stations.specs.StationPower.{station_power-seen, station_power-shown}
use Rattle.wire_stations.specs.StationPower.{station_power-with, station_power-written}
use Rattle.wire_stations.specs.declared.station.StationInC.{StationInC}
use Rattle.wire_stations.specs.declared.station_lists.StationListsInC.{StationListsInC}

-- ---- any station, whatever is seen of a sample

abbrev pub station-name-kind : Lawful (List ℕ)
station-name-kind = implicit string

abbrev pub station-level-kind : Lawful (EnumValue ReportLevel)
station-level-kind = implicit (numeric Varint (open_enum report_level-number report_level-of))

abbrev pub station-height-kind : Lawful (Option ℤ)
station-height-kind = optional (numeric Varint sint32)

abbrev pub station-note-kind : Lawful (Option (List ℕ))
station-note-kind = optional string

abbrev pub station-last-kind : {S : Type 0} → Shape S → Lawful (Option S)
station-last-kind = embedded_once

abbrev pub station-key-kind : Lawful (List ℕ)
station-key-kind = implicit any_bytes

abbrev pub station-staffed-kind : Lawful Bool
station-staffed-kind = implicit (numeric Varint bool)

-- all fields but the lists
abbrev pub Station-Of : Type 0 → Type 0
Station-Of Sample =
    ((((List ℕ)
    × (EnumValue ReportLevel))
    × ((Option ℤ)
    × (Option (List ℕ))))
    × (((Option Sample)
    × (List ℕ))
    × (Bool
    × (StationPower-Of Sample))))

abbrev pub station-with : {S : Type 0} → Shape S → Shape (Station-Of S)
station-with sample =
    two (two (two (known 1 station-name-kind)
    (known 2 station-level-kind))
    (two (known 3 station-height-kind)
    (known 4 station-note-kind)))
    (two (two (known 5 (station-last-kind sample))
    (known 6 station-key-kind))
    (two (known 7 station-staffed-kind)
    (station_power-with sample)))

-- ---- that of the message

abbrev pub station-tags-kind : Lawful (List (List ℕ))
station-tags-kind = repeated 24 string

abbrev pub station-samples-kind : Lawful (List ReportSample-Value)
station-samples-kind = embedded_each 80 report_sample-shape

abbrev pub Station-Known : Type 0
Station-Known =
    Station-Of ReportSample-Value × ((List (List ℕ))
    × (List ReportSample-Value))

abbrev pub station-known : Shape Station-Known
station-known =
    two (station-with report_sample-shape)
    (two (known 11 station-tags-kind)
    (known 12 station-samples-kind))

abbrev pub Station-Value : Type 0
Station-Value = Station-Known × Fields

abbrev pub tags-of-station : Station-Value → List (List ℕ)
tags-of-station m = m.0.1.0

abbrev pub samples-of-station : Station-Value → List ReportSample-Value
samples-of-station m = m.0.1.1

abbrev pub station-shape : Shape Station-Value
station-shape = two station-known unknown

-- ---- that of a struct

-- all but the unknown fields; of a list, how many there are
abbrev pub Station-Shown : Type 0
Station-Shown = (Station-Of ReportSample-Shown × (ℕ × ℕ)) × ⊤

abbrev pub station-tags_count-kind : Lawful ℕ
station-tags_count-kind = repeated_count 24 string

abbrev pub station-samples_count-kind : Lawful ℕ
station-samples_count-kind = embedded_count 80 report_sample-struct

-- what is shown of all fields but the lists
abbrev pub station-fields-seen : Station-Of ReportSample-Value → Station-Of ReportSample-Shown
station-fields-seen v = (
  v.0,
  (
    (
      option_map report_sample-seen v.1.0.0,
      v.1.0.1,
    ),
    (
      v.1.1.0,
      station_power-seen v.1.1.1,
    ),
  ),
)

-- what is shown of a value
abbrev pub station-seen : Station-Value → Station-Shown
station-seen v = (
  (
    station-fields-seen v.0.0,
    (
      count_seen v.0.1.0,
      count_seen v.0.1.1,
    ),
  ),
  tt,
)

-- what a struct shows of all fields but the lists
abbrev pub station-fields-shown : StationInC → Station-Of ReportSample-Shown
station-fields-shown m = (
  (
    (
      m.name.now,
      known_or (report_level-of m.level) m.level,
    ),
    (
      flagged m.has_height m.height,
      flagged m.has_note m.note.now,
    ),
  ),
  (
    (
      flagged m.has_last (report_sample-shown m.last),
      m.key.now,
    ),
    (
      m.staffed,
      station_power-shown m.power,
    ),
  ),
)

-- what a struct shows
abbrev pub station-shown : StationInC → Station-Shown
station-shown m = (
  (
    station-fields-shown m,
    (
      m.tags_count,
      m.samples_count,
    ),
  ),
  tt,
)

abbrev pub station-struct-known : Shape (Station-Of ReportSample-Shown × (ℕ × ℕ))
station-struct-known =
    two (station-with report_sample-struct)
    (two (known 11 station-tags_count-kind)
    (known 12 station-samples_count-kind))

-- the table of what a struct shows
abbrev pub station-struct : Shape Station-Shown
station-struct = two station-struct-known passed_by

-- each number is 0, each flag is not set, and each slice is of no bytes
pub record Station-IsZero (m : StationInC) : Type 0 where
  pub name : m.name.now ≡ []
  pub level : m.level ≡ pos 0
  pub has_height : m.has_height ≡ false
  pub height : m.height ≡ pos 0
  pub has_note : m.has_note ≡ false
  pub note : m.note.now ≡ []
  pub has_last : m.has_last ≡ false
  pub last : ReportSample-IsZero m.last
  pub key : m.key.now ≡ []
  pub staffed : m.staffed ≡ false
  pub power : StationPower-IsZero m.power
  pub tags_count : m.tags_count ≡ 0
  pub samples_count : m.samples_count ≡ 0

-- ---- what is written of a struct

-- of all fields but the lists
abbrev pub station-fields-written : StationInC → Station-Of ReportSample-Value
station-fields-written m = (
  (station-fields-shown m).0,
  (
    (
      flagged m.has_last (report_sample-written m.last Fields.none),
      m.key.now,
    ),
    (
      m.staffed,
      station_power-written m.power,
    ),
  ),
)

-- of the lists that are handed in beside it
abbrev pub station-lists-written : StationListsInC → (List (List ℕ)) × (List ReportSample-Value)
station-lists-written l = (
  map (λ b. b.bytes.now) l.tags.now,
  map (λ m. report_sample-written m Fields.none) l.samples.now,
)

-- what is written of a struct, its lists, and unknown fields beside it, as a value of the message
abbrev pub station-written : StationInC → StationListsInC → Fields → Station-Value
station-written m l fs = ((station-fields-written m, station-lists-written l), fs)

-- its shortest encoding
abbrev pub station-encoding : StationInC → StationListsInC → Fields → List ℕ
station-encoding m l fs = text (station-shape.records (station-written m l fs))
