use Rattle.wire_report_structs.specs.ReportLabelsEntryStays.{report_labels_entry-stays}
use Rattle.wire_fields.specs.Stays.{decodes_in_range}
use Rattle.wire_report_structs.proofs.laws.report_labels_entry_decodes_in_range.Goals as goal

pub returns : goal.returns
returns c = decodes_in_range c.grounds.ensures (report_labels_entry-stays c.grounds.ensures)
