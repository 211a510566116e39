use Rattle.wire_read.specs.PartFault.{PartFault}
use Rattle.wire_read.proofs.reader.Reader.step.Goals as goal

pub returns-in-Err-clause-fault : goal.returns-in-Err-clause-fault
returns-in-Err-clause-fault c = PartFault.bad_tag c.in-Err.ensures.fault
