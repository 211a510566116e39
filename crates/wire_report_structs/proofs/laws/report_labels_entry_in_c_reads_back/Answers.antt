use Rattle.wire_report_structs.proofs.ReportLabelsEntryInCShows.{report_labels_entry-same}
use Rattle.wire_report_structs.specs.ReportLabelsEntry.{report_labels_entry-range}
use Rattle.wire_report_structs.specs.ReportLabelsEntryInC.{report_labels_entry-written}
use Rattle.wire_report_structs.proofs.laws.report_labels_entry_in_c_reads_back.Goals as goal

pub returns : goal.returns
returns c l m fs holds fits =
    let v = report_labels_entry-written m fs in (
      (report_labels_entry-range.charge_of v, c.report_labels_entry_reads_back.ensures l v holds fits),
      report_labels_entry-same m fs,
    )
