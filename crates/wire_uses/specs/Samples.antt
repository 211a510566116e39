-- What samples counted.
use Rattle.std.specs.Prelude.{List, [], ◌∷◌, ℤ, pos, ◌+ℤ◌, unwrap_or}
use Rattle.wire_report.specs.ReportSample.{ReportSample-Value, count-of-report_sample}

-- the sum of the counts, where a sample that has none adds nothing, as a number without bounds
abbrev pub total_of : List ReportSample-Value → ℤ
total_of [] = pos 0
total_of (sample ∷ rest) = unwrap_or (count-of-report_sample sample) (pos 0) +ℤ total_of rest
