use Rattle.wire_report_structs.specs.Report.{report-range}
use Rattle.wire_report_structs.specs.ReportInC.{report-written}
use Rattle.wire_report_structs.proofs.laws.report_in_c_reads_back.Goals as goal

pub returns : goal.returns
returns c limits m l fs holds fits =
    let v = report-written m l fs in
    (report-range.charge_of v, c.report_reads_back.ensures limits v holds fits)
