use Rattle.wire_report.specs.ReportStays.{report-stays}
use Rattle.wire_fields.specs.Stays.{decodes_in_range}
use Rattle.wire_report.proofs.laws.report_decodes_in_range.Goals as goal

pub returns : goal.returns
returns c = decodes_in_range c.grounds.ensures (report-stays c.grounds.ensures)
