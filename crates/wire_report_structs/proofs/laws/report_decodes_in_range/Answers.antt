use Rattle.wire_report_structs.specs.ReportStays.{report-stays}
use Rattle.wire_fields.specs.Stays.{decodes_in_range}
use Rattle.wire_report_structs.proofs.laws.report_decodes_in_range.Goals as goal

pub returns : goal.returns
returns c = decodes_in_range c.grounds.ensures (report-stays c.grounds.ensures)
