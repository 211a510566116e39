use Rattle.wire_fields.proofs.Measuring.{unsized}
use Rattle.wire_fields.proofs.Scalars.{scalar_sizes}
use Rattle.wire_views.proofs.presence.AlwaysInWrittenKind.len.Goals as goal

pub returns-clause-ok : goal.returns-clause-ok
returns-clause-ok g c =
    unsized _ _ _ (scalar_sizes c.fields_are_plain.ensures g.S.ViewScalar.scalar c.args.number _)
    c.len.ensures
