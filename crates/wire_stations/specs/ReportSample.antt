-- `ReportSample` as a struct shows it.
use Rattle.std.specs.Prelude.{◌≡◌, ℕ, List, pos, [], false, ⊤}
use Rattle.wire_codec.specs.Field.{Fields}
use Rattle.wire_codec.specs.Limits.{Limits, Fits}
use Rattle.wire_codec.specs.Records.{text}
use Rattle.wire_codec.specs.Taking.{Decodes}
use Rattle.wire_fields.specs.Floats.{double}
use Rattle.wire_fields.specs.Shape.{Shape, two}
use Rattle.wire_report.specs.ReportSample.{ReportSample-Known, ReportSample-Value}
use Rattle.wire_report.specs.ReportSample.{report_sample-known, report_sample-range}
use Rattle.wire_report.specs.ReportSample.{report_sample-shape}
use Rattle.wire_structs.specs.Flags.{flagged}
use Rattle.wire_structs.specs.Passed.{passed_by}
use Rattle.wire_stations.specs.declared.report_sample.ReportSampleInC.{ReportSampleInC}

-- all but the unknown fields
abbrev pub ReportSample-Shown : Type 0
ReportSample-Shown = ReportSample-Known × ⊤

-- what is shown of a value
abbrev pub report_sample-seen : ReportSample-Value → ReportSample-Shown
report_sample-seen v = (v.0, tt)

-- what a struct shows
abbrev pub report_sample-shown : ReportSampleInC → ReportSample-Shown
report_sample-shown m = (
  (
    (
      m.name.now,
      double.dec m.value,
    ),
    flagged m.has_count m.count,
  ),
  tt,
)

-- the table of what a struct shows
abbrev pub report_sample-struct : Shape ReportSample-Shown
report_sample-struct = two report_sample-known passed_by

-- each number is 0, each flag is not set, and each slice is of no bytes
pub record ReportSample-IsZero (m : ReportSampleInC) : Type 0 where
  pub name : m.name.now ≡ []
  pub value : m.value ≡ 0
  pub has_count : m.has_count ≡ false
  pub count : m.count ≡ pos 0

-- what is written of a struct and of unknown fields beside it, as a value of the message
abbrev pub report_sample-written : ReportSampleInC → Fields → ReportSample-Value
report_sample-written m fs = ((report_sample-shown m).0, fs)

-- its shortest encoding
abbrev pub report_sample-encoding : ReportSampleInC → Fields → List ℕ
report_sample-encoding m fs = text (report_sample-shape.records (report_sample-written m fs))

-- what is written of a struct and of unknown fields is read as both, where they are in the range of
-- the message, its name being text, and the limits suffice; and what is seen of it is what is shown
abbrev pub ReportSampleReadsBack : Type 0
ReportSampleReadsBack =
    (l : Limits) (m : ReportSampleInC) (fs : Fields)
    → report_sample-range.Holds (report_sample-written m fs)
    → Fits (report_sample-range.charge_of (report_sample-written m fs)) l
    → Decodes report_sample-shape.takes l report_sample-shape.default (report_sample-encoding m fs)
    (report_sample-written m fs)
    × (report_sample-seen (report_sample-written m fs) ≡ report_sample-shown m)
