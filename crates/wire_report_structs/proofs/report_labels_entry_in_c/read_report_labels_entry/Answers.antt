use Rattle.wire_structs.proofs.Shown.{decodes_back, not_decoded_back}
use Rattle.wire_report_structs.proofs.ReportLabelsEntryInCShows.{report_labels_entry-shows}
use Rattle.wire_report_structs.specs.ReportLabelsEntry.{report_labels_entry-shape}
use Rattle.wire_report_structs.specs.ReportLabelsEntryInC.{report_labels_entry-seen, report_labels_entry-struct}
use Rattle.wire_report_structs.proofs.report_labels_entry_in_c.read_report_labels_entry.Goals as goal

pub returns-clause-ok : goal.returns-clause-ok
returns-clause-ok c = λ is.
    decodes_back report_labels_entry-seen report_labels_entry-shape.takes report_labels_entry-struct.takes
    report_labels_entry-shows.steps _ report_labels_entry-shape.default _ _ (c.read_status.ensures.ok is)

pub returns-clause-err : goal.returns-clause-err
returns-clause-err c = λ is.
    not_decoded_back report_labels_entry-seen report_labels_entry-shape.takes report_labels_entry-struct.takes
    report_labels_entry-shows.steps _ report_labels_entry-shape.default _ (c.read_status.ensures.err is)
