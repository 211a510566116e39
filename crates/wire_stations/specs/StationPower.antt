-- The oneof `power` of `Station`, as contracts see it and as a struct shows it.
use Rattle.std.proofs.Common.{◌≡◌, inl, inr}
use Rattle.std.specs.Prelude.{List, None, Option, Some, ℕ, ◌⊎◌, [], ◌==◌, if◌then◌else◌}
use Rattle.wire_codec.specs.Field.{Fields}
use Rattle.wire_codec.specs.Records.{Records, none}
use Rattle.wire_fields.specs.Floats.{float}
use Rattle.wire_fields.specs.Messages.{embedded_always}
use Rattle.wire_fields.specs.Numbers.{numeric}
use Rattle.wire_fields.specs.Oneof.{Variants, either_of, oneof, variant}
use Rattle.wire_fields.specs.Presence.{always}
use Rattle.wire_fields.specs.Shape.{Shape}
use Rattle.wire_fields.specs.Texts.{string}
use Rattle.wire_fields.specs.declared.floats.FloatBits.{FloatBits}
use Rattle.wire_fields.specs.declared.form.Form.TheVariants.{Fixed32}
use Rattle.wire_report.specs.ReportSample.{ReportSample-Value, report_sample-shape}
use Rattle.wire_stations.specs.ReportSample.{ReportSample-IsZero, ReportSample-Shown}
use Rattle.wire_stations.specs.ReportSample.{report_sample-seen, report_sample-shown}
use Rattle.wire_stations.specs.ReportSample.{report_sample-struct, report_sample-written}
use Rattle.wire_stations.specs.declared.station_power.StationPowerInC.{StationPowerInC}

-- ---- any oneof of these fields, whatever is seen of a sample

-- the one that stands
abbrev pub StationPower-Of : Type 0 → Type 0
StationPower-Of Sample = Option (FloatBits ⊎ ((List ℕ) ⊎ Sample))

abbrev pub volts-of-station_power-as : {S : Type 0} → StationPower-Of S → Option FloatBits
volts-of-station_power-as None = None
volts-of-station_power-as (Some (inl x)) = Some x
volts-of-station_power-as (Some (inr other)) = None

abbrev pub grid-of-station_power-as : {S : Type 0} → StationPower-Of S → Option (List ℕ)
grid-of-station_power-as None = None
grid-of-station_power-as (Some (inl other)) = None
grid-of-station_power-as (Some (inr (inl x))) = Some x
grid-of-station_power-as (Some (inr (inr other))) = None

abbrev pub backup-of-station_power-as : {S : Type 0} → StationPower-Of S → Option S
backup-of-station_power-as None = None
backup-of-station_power-as (Some (inl other)) = None
backup-of-station_power-as (Some (inr (inl other))) = None
backup-of-station_power-as (Some (inr (inr x))) = Some x

abbrev pub volts-of-station_power : {S : Type 0} → Variants (StationPower-Of S)
volts-of-station_power =
    variant 8 (always (numeric Fixed32 float)) volts-of-station_power-as (λ x. Some (inl x))

abbrev pub grid-of-station_power : {S : Type 0} → Variants (StationPower-Of S)
grid-of-station_power =
    variant 9 (always string) grid-of-station_power-as (λ x. Some (inr (inl x)))

abbrev pub backup-of-station_power : {S : Type 0} → Shape S → Variants (StationPower-Of S)
backup-of-station_power sample =
    variant 10 (embedded_always sample) backup-of-station_power-as (λ x. Some (inr (inr x)))

abbrev pub station_power-records : {S : Type 0} → Shape S → StationPower-Of S → Records
station_power-records sample None = none
station_power-records sample (Some (inl x)) =
    (always (numeric Fixed32 float)).kind.records 8 x
station_power-records sample (Some (inr (inl x))) = (always string).kind.records 9 x
station_power-records sample (Some (inr (inr x))) =
    (embedded_always sample).kind.records 10 x

-- all but the last
abbrev pub station_power-front : {S : Type 0} → Variants (StationPower-Of S)
station_power-front = either_of volts-of-station_power grid-of-station_power

abbrev pub station_power-with : {S : Type 0} → Shape S → Shape (StationPower-Of S)
station_power-with sample =
    oneof None (station_power-records sample)
    (either_of station_power-front (backup-of-station_power sample))

-- ---- that of the message

abbrev pub StationPower-Value : Type 0
StationPower-Value = StationPower-Of ReportSample-Value

abbrev pub station_power-shape : Shape StationPower-Value
station_power-shape = station_power-with report_sample-shape

-- ---- that of a struct

abbrev pub StationPower-Shown : Type 0
StationPower-Shown = StationPower-Of ReportSample-Shown

-- what is shown of a value
abbrev pub station_power-seen : StationPower-Value → StationPower-Shown
station_power-seen None = None
station_power-seen (Some (inl x)) = Some (inl x)
station_power-seen (Some (inr (inl x))) = Some (inr (inl x))
station_power-seen (Some (inr (inr x))) = Some (inr (inr (report_sample-seen x)))

-- what a struct shows
abbrev pub station_power-shown : StationPowerInC → StationPower-Shown
station_power-shown m =
    if m.which == 8 then Some (inl (float.dec m.volts))
    else if m.which == 9 then Some (inr (inl m.grid.now))
    else if m.which == 10 then Some (inr (inr (report_sample-shown m.backup)))
    else None

abbrev pub station_power-struct : Shape StationPower-Shown
station_power-struct = station_power-with report_sample-struct

-- none stands, each number is 0, and each slice is of no bytes
pub record StationPower-IsZero (m : StationPowerInC) : Type 0 where
  pub which : m.which ≡ 0
  pub volts : m.volts ≡ 0
  pub grid : m.grid.now ≡ []
  pub backup : ReportSample-IsZero m.backup

-- what is written of a struct: the field that stands, and none for a number that is no field's
abbrev pub station_power-written : StationPowerInC → StationPower-Value
station_power-written m =
    if m.which == 8 then Some (inl (float.dec m.volts))
    else if m.which == 9 then Some (inr (inl m.grid.now))
    else if m.which == 10 then Some (inr (inr (report_sample-written m.backup Fields.none)))
    else None
