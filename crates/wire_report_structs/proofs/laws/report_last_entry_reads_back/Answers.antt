use Rattle.wire_report_structs.specs.ReportLastEntry.{report_last_entry-returned}
use Rattle.wire_fields.specs.Returned.{reads_back}
use Rattle.wire_report_structs.proofs.laws.report_last_entry_reads_back.Goals as goal

pub returns : goal.returns
returns c = reads_back (report_last_entry-returned c.grounds.ensures) c.text_decodes.ensures
