-- Why a report is not stored and read again.
use Rattle.std.specs.Prelude.{◌≢◌, ◌<◌, ℕ, List}
use Rattle.wire_codec.specs.DecodeError.TheVariants as decode
use Rattle.wire_codec.specs.EncodeError.TheVariants as encode
use Rattle.wire_codec.specs.Records.{text, text_size}
use Rattle.wire_fields.specs.Shape.{DecodesAs, NotDecodedAs}
use Rattle.wire_report.specs.Report.{Report-Value, report-shape}
use Rattle.wire_count.specs.declared.reports.StoreError.{StoreError}
use Rattle.wire_count.specs.declared.reports.StoreError.TheVariants.{NotDecoded, NotEncoded, NotReadAgain}

-- what each error but want of memory says of the bytes: they are no report; or they are one, whose
-- encoding is past the size that a message may have, or is itself no report within the limits
abbrev pub StoreFault : List ℕ → StoreError → Type 0
StoreFault bytes (NotDecoded e) = e ≢ decode.OutOfMemory → NotDecodedAs report-shape bytes
StoreFault bytes (NotEncoded e) = e ≢ encode.OutOfMemory
    → (report : Report-Value) × DecodesAs report-shape bytes report
    × (2147483647 < text_size (report-shape.records report))
StoreFault bytes (NotReadAgain e) = e ≢ decode.OutOfMemory
    → (report : Report-Value) × DecodesAs report-shape bytes report
    × NotDecodedAs report-shape (text (report-shape.records report))
