use Rattle.wire_structs.proofs.FirstRefused.{refused_back}
use Rattle.wire_structs.proofs.Shown.{decodes_back, not_decoded_back}
use Rattle.wire_report_structs.proofs.ReportLastEntryInCShows.{report_last_entry-shows}
use Rattle.wire_report_structs.specs.ReportLastEntry.{report_last_entry-shape}
use Rattle.wire_report_structs.specs.ReportLastEntryInC.{report_last_entry-seen, report_last_entry-struct}
use Rattle.wire_report_structs.proofs.report_last_entry_in_c.report_last_entry_fault.Goals as goal

pub returns-clause-ok : goal.returns-clause-ok
returns-clause-ok c = λ is.
    let value = decodes_back report_last_entry-seen report_last_entry-shape.takes report_last_entry-struct.takes
    report_last_entry-shows.steps _ report_last_entry-shape.default _ _ (c.refused_status.ensures.ok is).1 in
    (value.0, value.1)

pub returns-clause-err : goal.returns-clause-err
returns-clause-err c = λ is.
    not_decoded_back report_last_entry-seen report_last_entry-shape.takes report_last_entry-struct.takes
    report_last_entry-shows.steps _ report_last_entry-shape.default _ (c.refused_status.ensures.err is)

pub returns-clause-place : goal.returns-clause-place
returns-clause-place c = λ is.
    refused_back report_last_entry-seen report_last_entry-shape.takes report_last_entry-struct.takes
    report_last_entry-shows.steps _ report_last_entry-shape.default _ _ (c.refused_status.ensures.refused is)
