use Rattle.wire_structs.proofs.Shown.{decodes_back, not_decoded_back}
use Rattle.wire_report_structs.proofs.ReportSampleInCShows.{report_sample-shows}
use Rattle.wire_report_structs.specs.ReportSample.{report_sample-shape}
use Rattle.wire_report_structs.specs.ReportSampleInC.{report_sample-seen, report_sample-struct}
use Rattle.wire_report_structs.proofs.report_sample_in_c.read_report_sample.Goals as goal

pub returns-clause-ok : goal.returns-clause-ok
returns-clause-ok c = λ is.
    decodes_back report_sample-seen report_sample-shape.takes report_sample-struct.takes
    report_sample-shows.steps _ report_sample-shape.default _ _ (c.read_status.ensures.ok is)

pub returns-clause-err : goal.returns-clause-err
returns-clause-err c = λ is.
    not_decoded_back report_sample-seen report_sample-shape.takes report_sample-struct.takes
    report_sample-shows.steps _ report_sample-shape.default _ (c.read_status.ensures.err is)
