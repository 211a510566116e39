use Rattle.wire_structs.proofs.FirstRefused.{refused_back}
use Rattle.wire_structs.proofs.Shown.{decodes_back, not_decoded_back}
use Rattle.wire_report_structs.proofs.ReportInCShows.{report-shows}
use Rattle.wire_report_structs.specs.Report.{report-shape}
use Rattle.wire_report_structs.specs.ReportInC.{report-seen, report-struct}
use Rattle.wire_report_structs.proofs.report_in_c.report_fault.Goals as goal

pub returns-clause-ok : goal.returns-clause-ok
returns-clause-ok c = λ is.
    let value = decodes_back report-seen report-shape.takes report-struct.takes
    report-shows.steps _ report-shape.default _ _ (c.refused_status.ensures.ok is).1 in
    (value.0, value.1)

pub returns-clause-err : goal.returns-clause-err
returns-clause-err c = λ is.
    not_decoded_back report-seen report-shape.takes report-struct.takes
    report-shows.steps _ report-shape.default _ (c.refused_status.ensures.err is)

pub returns-clause-place : goal.returns-clause-place
returns-clause-place c = λ is.
    refused_back report-seen report-shape.takes report-struct.takes
    report-shows.steps _ report-shape.default _ _ (c.refused_status.ensures.refused is)
