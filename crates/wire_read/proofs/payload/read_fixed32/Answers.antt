use Rattle.std.proofs.Common.{refl, sym, subst}
use Rattle.wire_base.specs.Field.{fixed32}
use Rattle.wire_read.specs.declared.event.Part.TheVariants as parts
use Rattle.wire_read.specs.PartFault.{PayloadPart}
use Rattle.wire_read.proofs.Budgets.{none_spent}
use Rattle.wire_read.proofs.Payloads.{fixed32_there}
use Rattle.wire_read.proofs.payload.read_fixed32.Goals as goal

pub returns-in-Ok-clause-ok : goal.returns-in-Ok-clause-ok
returns-in-Ok-clause-ok c = record {
  payload = fixed32 c.in-Ok.value;
  is = λ n. refl;
  kind = refl;
  read = λ n. fixed32_there c.in-Ok.value _ _ c.in-Ok.ensures.ok;
  spent = none_spent c.args.left;
}

pub returns-in-Err-clause-fault : goal.returns-in-Err-clause-fault
returns-in-Err-clause-fault c l =
    subst (PayloadPart l _ c.args.bytes.now parts.Value c.args.bytes.now)
    (sym c.in-Err.ensures.short.0) (PayloadPart.short_fixed32 c.in-Err.ensures.short.1)
