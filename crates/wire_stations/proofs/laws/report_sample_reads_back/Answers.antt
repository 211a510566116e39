use Rattle.std.proofs.Common.{refl}
use Rattle.wire_report.specs.ReportSample.{report_sample-range}
use Rattle.wire_stations.specs.ReportSample.{report_sample-written}
use Rattle.wire_stations.proofs.laws.report_sample_reads_back.Goals as goal

pub returns : goal.returns
returns c l m fs holds fits =
    let v = report_sample-written m fs in
    ((report_sample-range.charge_of v, c.report_sample_reads_back.ensures l v holds fits), refl)
