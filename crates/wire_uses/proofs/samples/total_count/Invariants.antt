use Rattle.std.proofs.Common.{◌≡◌, ◌*◌, ◌^◌, drop, map, pos, ◌+ℤ◌, ◌≤ℤ◌}
use Rattle.wire_report.specs.ReportSample.{report_sample-value}
use Rattle.wire_uses.specs.Samples.{total_of}
use Rattle.wire_uses.proofs.samples.total_count.Given as goal

-- what is added up and what is to come make the total, and each sample adds 2^63 at most
abbrev pub invariant-loop-sample : goal.invariant-loop-sample
invariant-loop-sample l =
    let all = l.report.samples.items in
    (l.total +ℤ total_of (map report_sample-value (drop l.sample-index all))
    ≡ total_of (map report_sample-value all))
    × (pos 0 ≤ℤ (l.total +ℤ pos (2 ^ 63 * l.sample-index)))
    × (l.total ≤ℤ pos (2 ^ 63 * l.sample-index))
