-- What a struct shows is read where the message is.
use Rattle.std.proofs.Common.{◌≡◌, refl, inl, inr}
use Rattle.std.specs.Prelude.{Some, None, option_map}
use Rattle.wire_fields.specs.Floats.{float}
use Rattle.wire_fields.specs.Messages.{embedded_always, length_prefixed}
use Rattle.wire_fields.specs.Numbers.{numeric}
use Rattle.wire_fields.specs.Presence.{always}
use Rattle.wire_fields.specs.Shape.{unknown}
use Rattle.wire_fields.specs.Texts.{string}
use Rattle.wire_fields.specs.declared.form.Form.TheVariants.{Fixed32}
use Rattle.wire_report.specs.ReportSample.{ReportSample-Value, report_sample-known}
use Rattle.wire_report.specs.ReportSample.{report_sample-shape}
use Rattle.wire_structs.proofs.Shown.{all_shown, either_of_shown, inside_shown, once_shown}
use Rattle.wire_structs.proofs.Shown.{same_shape, same_shown, two_shown, unknown_shown}
use Rattle.wire_structs.proofs.Shown.{variant_shown}
use Rattle.wire_structs.proofs.CountedLists.{embedded_shown, repeated_shown}
use Rattle.wire_structs.specs.Counts.{count_seen}
use Rattle.wire_structs.specs.Passed.{passed_by}
use Rattle.wire_structs.specs.Showing.{ShowsShape, ShowsSteps}
use Rattle.wire_stations.specs.ReportSample.{ReportSample-Shown, report_sample-seen}
use Rattle.wire_stations.specs.ReportSample.{report_sample-struct}
use Rattle.wire_stations.specs.Station.{station-height-kind, station-key-kind}
use Rattle.wire_stations.specs.Station.{station-level-kind, station-name-kind, station-note-kind}
use Rattle.wire_stations.specs.Station.{station-staffed-kind, station-seen, station-shape}
use Rattle.wire_stations.specs.Station.{station-fields-seen, station-struct, station-with}
use Rattle.wire_stations.specs.StationPower.{StationPower-Value, backup-of-station_power}
use Rattle.wire_stations.specs.StationPower.{backup-of-station_power-as, grid-of-station_power}
use Rattle.wire_stations.specs.StationPower.{grid-of-station_power-as, station_power-front}
use Rattle.wire_stations.specs.StationPower.{station_power-seen, station_power-shape}
use Rattle.wire_stations.specs.StationPower.{station_power-struct, volts-of-station_power}
use Rattle.wire_stations.specs.StationPower.{volts-of-station_power-as}

pub report_sample-shows : ShowsShape report_sample-seen report_sample-shape report_sample-struct
report_sample-shows =
    two_shown (λ v. v) (λ fs. tt) report_sample-known unknown report_sample-known passed_by
    (same_shape report_sample-known) unknown_shown

-- ---- the oneof

volts-seen : (m : StationPower-Value) → volts-of-station_power-as (station_power-seen m)
    ≡ option_map (λ x. x) (volts-of-station_power-as m)
volts-seen None = refl
volts-seen (Some (inl x)) = refl
volts-seen (Some (inr (inl x))) = refl
volts-seen (Some (inr (inr x))) = refl

grid-seen : (m : StationPower-Value) → grid-of-station_power-as (station_power-seen m)
    ≡ option_map (λ x. x) (grid-of-station_power-as m)
grid-seen None = refl
grid-seen (Some (inl x)) = refl
grid-seen (Some (inr (inl x))) = refl
grid-seen (Some (inr (inr x))) = refl

backup-seen : (m : StationPower-Value) → backup-of-station_power-as (station_power-seen m)
    ≡ option_map report_sample-seen (backup-of-station_power-as m)
backup-seen None = refl
backup-seen (Some (inl x)) = refl
backup-seen (Some (inr (inl x))) = refl
backup-seen (Some (inr (inr x))) = refl

volts-shows : ShowsSteps station_power-seen (volts-of-station_power {S = ReportSample-Value}).takes
    (volts-of-station_power {S = ReportSample-Shown}).takes
volts-shows =
    variant_shown station_power-seen (λ x. x) 8 (always (numeric Fixed32 float))
    (always (numeric Fixed32 float)) volts-of-station_power-as volts-of-station_power-as
    (λ x. Some (inl x)) (λ x. Some (inl x)) refl volts-seen (λ x. refl) (all_shown _)

grid-shows : ShowsSteps station_power-seen (grid-of-station_power {S = ReportSample-Value}).takes
    (grid-of-station_power {S = ReportSample-Shown}).takes
grid-shows =
    variant_shown station_power-seen (λ x. x) 9 (always string) (always string)
    grid-of-station_power-as grid-of-station_power-as (λ x. Some (inr (inl x)))
    (λ x. Some (inr (inl x))) refl grid-seen (λ x. refl) (all_shown _)

backup-shows : ShowsSteps station_power-seen (backup-of-station_power report_sample-shape).takes
    (backup-of-station_power report_sample-struct).takes
backup-shows =
    variant_shown station_power-seen report_sample-seen 10 (embedded_always report_sample-shape)
    (embedded_always report_sample-struct) backup-of-station_power-as backup-of-station_power-as
    (λ x. Some (inr (inr x))) (λ x. Some (inr (inr x))) refl backup-seen (λ x. refl)
    (inside_shown report_sample-seen length_prefixed _ _ report_sample-shows.steps)

pub station_power-shows : ShowsShape station_power-seen station_power-shape station_power-struct
station_power-shows = record {
  owns = λ n p. refl;
  default = refl;
  steps = either_of_shown station_power-seen station_power-front
      (backup-of-station_power report_sample-shape) station_power-front
      (backup-of-station_power report_sample-struct) (λ n p. refl)
      (either_of_shown station_power-seen volts-of-station_power grid-of-station_power
      volts-of-station_power grid-of-station_power (λ n p. refl) volts-shows grid-shows)
      backup-shows;
}

-- ---- the station

station-fields-shows : ShowsShape station-fields-seen (station-with report_sample-shape)
    (station-with report_sample-struct)
station-fields-shows =
    two_shown _ _ _ _ _ _
    (two_shown _ _ _ _ _ _
    (two_shown _ _ _ _ _ _
    (same_shown 1 station-name-kind)
    (same_shown 2 station-level-kind))
    (two_shown _ _ _ _ _ _
    (same_shown 3 station-height-kind)
    (same_shown 4 station-note-kind)))
    (two_shown _ _ _ _ _ _
    (two_shown _ _ _ _ _ _
    (once_shown report_sample-seen 5 length_prefixed _ _ report_sample-shows)
    (same_shown 6 station-key-kind))
    (two_shown _ _ _ _ _ _
    (same_shown 7 station-staffed-kind)
    station_power-shows))

pub station-shows : ShowsShape station-seen station-shape station-struct
station-shows =
    two_shown _ (λ fs. tt) _ unknown _ passed_by
    (two_shown station-fields-seen _ _ _ _ _
    station-fields-shows
    (two_shown count_seen count_seen _ _ _ _
    (repeated_shown 11 24 string)
    (embedded_shown report_sample-seen _ _ report_sample-shows 12 80)))
    unknown_shown
