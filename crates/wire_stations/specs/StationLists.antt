-- The lists of a station as those of its table.
use Rattle.std.proofs.Common.{◌≡◌, inl, inr, refl}
use Rattle.std.specs.Prelude.{IsUtf8, Some, ℕ, List, [], ◌∷◌, ◌++◌}
use Rattle.wire_codec.specs.ValueMap.{bool, sint32}
use Rattle.wire_fields.specs.Enums.{open_enum}
use Rattle.wire_fields.specs.Floats.{float}
use Rattle.wire_fields.specs.Messages.{embedded_always}
use Rattle.wire_fields.specs.Numbers.{numeric}
use Rattle.wire_fields.specs.Presence.{always}
use Rattle.wire_fields.specs.Shape.{known, two}
use Rattle.wire_fields.specs.Texts.{any_bytes, string}
use Rattle.wire_fields.specs.declared.form.Form.TheVariants.{Fixed32, Varint}
use Rattle.wire_report.specs.ReportLevel.{report_level-number, report_level-of}
use Rattle.wire_report.specs.ReportSample.{ReportSample-Value, report_sample-shape}
use Rattle.wire_stations.specs.Station.{station-height-kind, station-key-kind, station-known}
use Rattle.wire_stations.specs.Station.{station-last-kind, station-level-kind, station-name-kind}
use Rattle.wire_stations.specs.Station.{station-note-kind, station-samples-kind, station-shape}
use Rattle.wire_stations.specs.Station.{station-staffed-kind, station-tags-kind, station-with}
use Rattle.wire_stations.specs.Station.{samples-of-station, tags-of-station}
use Rattle.wire_stations.specs.StationPower.{backup-of-station_power, backup-of-station_power-as}
use Rattle.wire_stations.specs.StationPower.{grid-of-station_power, grid-of-station_power-as}
use Rattle.wire_stations.specs.StationPower.{station_power-front, station_power-shape}
use Rattle.wire_stations.specs.StationPower.{volts-of-station_power, volts-of-station_power-as}
use Rattle.wire_structs.specs.ListLaws.{HasLevels, adds_levels, either_levels, field_leaves}
use Rattle.wire_structs.specs.ListLaws.{flat_delimited, flat_numeric, gathers_levels, inside_levels}
use Rattle.wire_structs.specs.ListLaws.{known_levels, left_leaves, merges_levels, message_more}
use Rattle.wire_structs.specs.ListLaws.{right_leaves}
use Rattle.wire_structs.specs.ListLaws.{sets_levels, some_levels, two_levels, unknown_levels}
use Rattle.wire_structs.specs.ListLaws.{variant_levels, whole_leaves}
use Rattle.wire_structs.specs.Walks.{IsElement, ListOf, MakesElement}

station_power-levels : HasLevels station_power-shape
station_power-levels = record {
  levels = either_levels station_power-front (backup-of-station_power report_sample-shape)
      (either_levels volts-of-station_power grid-of-station_power
      (variant_levels 8 (always (numeric Fixed32 float)) volts-of-station_power-as
      (λ x. Some (inl x)) (sets_levels (numeric Fixed32 float) (flat_numeric Fixed32 float)))
      (variant_levels 9 (always string) grid-of-station_power-as (λ x. Some (inr (inl x)))
      (sets_levels string (flat_delimited IsUtf8))))
      (variant_levels 10 (embedded_always report_sample-shape) backup-of-station_power-as
      (λ x. Some (inr (inr x))) (inside_levels report_sample-shape.takes));
}

pub station-levels : HasLevels station-shape
station-levels =
    two_levels _ _
    (two_levels _ _
    (two_levels _ _
    (two_levels _ _
    (two_levels _ _
    (known_levels 1 station-name-kind (sets_levels string (flat_delimited IsUtf8)))
    (known_levels 2 station-level-kind
    (sets_levels (numeric Varint (open_enum report_level-number report_level-of))
    (flat_numeric Varint (open_enum report_level-number report_level-of)))))
    (two_levels _ _
    (known_levels 3 station-height-kind
    (some_levels (numeric Varint sint32) (flat_numeric Varint sint32)))
    (known_levels 4 station-note-kind (some_levels string (flat_delimited IsUtf8)))))
    (two_levels _ _
    (two_levels _ _
    (known_levels 5 (station-last-kind report_sample-shape)
    (merges_levels report_sample-shape.takes report_sample-shape.default))
    (known_levels 6 station-key-kind (sets_levels any_bytes (flat_delimited (λ b. Unit {0})))))
    (two_levels _ _
    (known_levels 7 station-staffed-kind
    (sets_levels (numeric Varint bool) (flat_numeric Varint bool)))
    station_power-levels)))
    (two_levels _ _
    (known_levels 11 station-tags-kind (adds_levels string (flat_delimited IsUtf8) 24))
    (known_levels 12 station-samples-kind
    (gathers_levels report_sample-shape.takes 80 report_sample-shape.default
    (λ m after. m ++ after ∷ [])))))
    unknown_levels

-- the samples
pub station-samples-list :
    ListOf station-shape.takes samples-of-station (MakesElement report_sample-shape) 12 any_bytes
station-samples-list = record {
  own = λ levels limits whole l low m z p c fits h.
      message_more report_sample-shape 80 (λ ms after. ms ++ after ∷ []) levels limits whole l low
      (samples-of-station m) (samples-of-station z) 12 p c fits h.0.0.0;
  others = λ m z n p c other h.
      whole_leaves station-known 12 (λ v. v.1.1)
      (right_leaves (station-with report_sample-shape)
      (two (known 11 station-tags-kind) (known 12 station-samples-kind)) 12 (λ v. v.1)
      (right_leaves (known 11 station-tags-kind) (known 12 station-samples-kind) 12 (λ v. v)
      (field_leaves 12 station-samples-kind)))
      m z n p c other h;
  levels = station-levels.levels;
}

-- the tags
pub station-tags-list : ListOf station-shape.takes tags-of-station IsElement 11 string
station-tags-list = record {
  own = λ levels limits whole l low m z p c fits h.
      let mine = h.0.0.0 in (mine.1, mine.2, mine.1, refl, mine.3);
  others = λ m z n p c other h.
      whole_leaves station-known 11 (λ v. v.1.0)
      (right_leaves (station-with report_sample-shape)
      (two (known 11 station-tags-kind) (known 12 station-samples-kind)) 11 (λ v. v.0)
      (left_leaves (known 11 station-tags-kind) (known 12 station-samples-kind) 11 (λ v. v)
      (field_leaves 11 station-tags-kind)))
      m z n p c other h;
  levels = station-levels.levels;
}
