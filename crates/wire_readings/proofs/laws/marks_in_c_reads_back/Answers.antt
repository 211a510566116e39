use Rattle.wire_readings.specs.Marks.{marks-range}
use Rattle.wire_readings.specs.MarksInC.{marks-written}
use Rattle.wire_readings.proofs.laws.marks_in_c_reads_back.Goals as goal

pub returns : goal.returns
returns c limits m l fs holds fits =
    let v = marks-written m l fs in
    (marks-range.charge_of v, c.marks_reads_back.ensures limits v holds fits)
