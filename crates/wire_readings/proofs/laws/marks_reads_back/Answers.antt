use Rattle.wire_readings.specs.Marks.{marks-returned}
use Rattle.wire_fields.specs.Returned.{reads_back}
use Rattle.wire_readings.proofs.laws.marks_reads_back.Goals as goal

pub returns : goal.returns
returns c = reads_back (marks-returned c.grounds.ensures) c.text_decodes.ensures
