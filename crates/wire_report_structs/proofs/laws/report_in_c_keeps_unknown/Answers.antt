use Rattle.wire_structs.proofs.KeptUnknown.{keeps_unknown}
use Rattle.wire_report_structs.specs.Report.{report-known}
use Rattle.wire_report_structs.specs.ReportInCLists.{report-levels}
use Rattle.wire_report_structs.proofs.laws.report_in_c_keeps_unknown.Goals as goal

pub returns : goal.returns
returns c = keeps_unknown report-known report-levels
