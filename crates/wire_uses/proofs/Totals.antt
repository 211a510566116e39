-- The total of counts, a sample at a time.
use Rattle.std.proofs.Common.{◌≡◌, ◌<◌, ◌+◌, ℕ, ℤ, pos, ◌+ℤ◌, List, drop, get_or, length, map}
use Rattle.std.proofs.Common.{Option, None, Some, option_map, unwrap_or, refl, sym, ap, ◌∙◌}
use Rattle.std.proofs.lemmas.List.{drop_more}
use Rattle.wire_report.specs.ReportSample.{count-of-report_sample, report_sample-value}
use Rattle.wire_report.specs.declared.report_sample.ReportSample.{ReportSample}
use Rattle.wire_uses.specs.Samples.{total_of}

counted : (count : Option ℤ)
    → unwrap_or (option_map (λ v. v) count) (pos 0) ≡ unwrap_or count (pos 0)
counted None = refl
counted (Some n) = refl

-- the total from a place on is the count there and the total behind it
pub one_more : (samples : List ReportSample) (i : ℕ) (sample : ReportSample)
    → i < length samples → sample ≡ get_or samples i sample
    → total_of (map report_sample-value (drop i samples))
    ≡ unwrap_or sample.count (pos 0)
    +ℤ total_of (map report_sample-value (drop (i + 1) samples))
one_more samples i sample within is =
    let behind = total_of (map report_sample-value (drop (i + 1) samples)) in
    ap (λ (l : List ReportSample). total_of (map report_sample-value l))
    (drop_more samples i sample within)
    ∙ ap (λ (s : ReportSample). unwrap_or (count-of-report_sample (report_sample-value s)) (pos 0)
    +ℤ behind) (sym is)
    ∙ ap (λ (n : ℤ). n +ℤ behind) (counted sample.count)
