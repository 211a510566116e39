use Rattle.wire_report_structs.proofs.ReportLastEntryInCShows.{report_last_entry-same}
use Rattle.wire_report_structs.specs.ReportLastEntry.{report_last_entry-range}
use Rattle.wire_report_structs.specs.ReportLastEntryInC.{report_last_entry-written}
use Rattle.wire_report_structs.proofs.laws.report_last_entry_in_c_reads_back.Goals as goal

pub returns : goal.returns
returns c l m fs holds fits =
    let v = report_last_entry-written m fs in (
      (report_last_entry-range.charge_of v, c.report_last_entry_reads_back.ensures l v holds fits),
      report_last_entry-same m fs,
    )
