use Rattle.wire_machines.specs.Part.{part-range}
use Rattle.wire_machines.specs.PartInC.{part-written}
use Rattle.wire_machines.proofs.laws.part_in_c_reads_back.Goals as goal

pub returns : goal.returns
returns c limits m l fs holds fits =
    let v = part-written m l fs in
    (part-range.charge_of v, c.part_reads_back.ensures limits v holds fits)
