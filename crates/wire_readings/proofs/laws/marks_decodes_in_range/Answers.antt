use Rattle.wire_readings.specs.MarksStays.{marks-stays}
use Rattle.wire_fields.specs.Stays.{decodes_in_range}
use Rattle.wire_readings.proofs.laws.marks_decodes_in_range.Goals as goal

pub returns : goal.returns
returns c = decodes_in_range c.grounds.ensures (marks-stays c.grounds.ensures)
