use Rattle.wire_structs.proofs.KeptUnknown.{keeps_unknown}
use Rattle.wire_readings.specs.Marks.{marks-known}
use Rattle.wire_readings.specs.MarksInCLists.{marks-levels}
use Rattle.wire_readings.proofs.laws.marks_in_c_keeps_unknown.Goals as goal

pub returns : goal.returns
returns c = keeps_unknown marks-known marks-levels
