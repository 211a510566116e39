use Rattle.wire_report_structs.proofs.ReportSampleInCShows.{report_sample-same}
use Rattle.wire_report_structs.specs.ReportSample.{report_sample-range}
use Rattle.wire_report_structs.specs.ReportSampleInC.{report_sample-written}
use Rattle.wire_report_structs.proofs.laws.report_sample_in_c_reads_back.Goals as goal

pub returns : goal.returns
returns c l m fs holds fits =
    let v = report_sample-written m fs in (
      (report_sample-range.charge_of v, c.report_sample_reads_back.ensures l v holds fits),
      report_sample-same m fs,
    )
