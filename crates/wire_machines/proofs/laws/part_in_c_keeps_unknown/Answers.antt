use Rattle.wire_structs.proofs.KeptUnknown.{keeps_unknown}
use Rattle.wire_machines.specs.Part.{part-known}
use Rattle.wire_machines.specs.PartInCLists.{part-levels}
use Rattle.wire_machines.proofs.laws.part_in_c_keeps_unknown.Goals as goal

pub returns : goal.returns
returns c = keeps_unknown part-known part-levels
