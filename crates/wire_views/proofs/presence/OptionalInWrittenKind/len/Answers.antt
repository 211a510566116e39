use Rattle.wire_fields.proofs.Measuring.{unsized}
use Rattle.wire_fields.proofs.Scalars.{scalar_sizes}
use Rattle.wire_views.proofs.presence.OptionalInWrittenKind.len.Goals as goal

pub returns-in-Some-clause-ok : goal.returns-in-Some-clause-ok
returns-in-Some-clause-ok g c =
    rw c.in-Some.is (unsized _ _ _ (scalar_sizes c.fields_are_plain.ensures g.S.ViewScalar.scalar c.args.number _)
    c.len.ensures)
