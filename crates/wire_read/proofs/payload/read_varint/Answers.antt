use Rattle.std.proofs.Common.{refl}
use Rattle.wire_base.specs.Field.{varint}
use Rattle.wire_read.specs.PartFault.{PayloadPart}
use Rattle.wire_read.proofs.Budgets.{none_spent}
use Rattle.wire_read.proofs.payload.read_varint.Goals as goal

pub returns-in-Ok-clause-ok : goal.returns-in-Ok-clause-ok
returns-in-Ok-clause-ok c = record {
  payload = varint c.in-Ok.value;
  is = λ n. refl;
  kind = refl;
  read = λ n. c.in-Ok.ensures.ok;
  spent = none_spent c.args.left;
}

pub returns-in-Err-clause-fault : goal.returns-in-Err-clause-fault
returns-in-Err-clause-fault c l = PayloadPart.bad_varint c.in-Err.ensures.fault
