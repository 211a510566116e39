-- A report with another level, and why it is not written.
use Rattle.std.specs.Prelude.{◌≡◌, ◌≢◌, ◌<◌, ℕ, List}
use Rattle.wire_codec.specs.DecodeError.TheVariants as decode
use Rattle.wire_codec.specs.EncodeError.TheVariants as encode
use Rattle.wire_codec.specs.EnumValue.TheVariants.{Known}
use Rattle.wire_codec.specs.Records.{Records, text_size}
use Rattle.wire_fields.specs.Shape.{DecodesAs, NotDecodedAs}
use Rattle.wire_report.specs.Report.{report-shape, report-value}
use Rattle.wire_report.specs.declared.report.Report.{Report}
use Rattle.wire_report.specs.declared.report_level.ReportLevel.{ReportLevel}
use Rattle.wire_uses.specs.declared.edit.EditError.{EditError}
use Rattle.wire_uses.specs.declared.edit.EditError.TheVariants.{NotDecoded, NotEncoded}

-- the records of the report with this level, and with its other fields as they are
abbrev pub records_with_level : ReportLevel → Report → Records
records_with_level level report =
    report-shape.records (report-value (record report { level = Known level }))

-- what each error says of the bytes, memory aside: they are no report; or they are one, which with
-- this level is past the size that a message may have
abbrev pub EditFault : List ℕ → ReportLevel → EditError → Type 0
EditFault bytes level (NotDecoded e) = e ≢ decode.OutOfMemory → NotDecodedAs report-shape bytes
EditFault bytes level (NotEncoded e) = (report : Report)
    × DecodesAs report-shape bytes (report-value report)
    × (e ≢ encode.OutOfMemory → (e ≡ encode.MessageTooLarge)
    × (2147483647 < text_size (records_with_level level report)))
