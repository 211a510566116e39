use Rattle.wire_fields.proofs.Scalars.{scalar_reads}
use Rattle.wire_views.proofs.presence.OptionalInWrittenKind.put.Goals as goal

pub returns-in-Some-clause-read : goal.returns-in-Some-clause-read
returns-in-Some-clause-read g c =
    rw c.in-Some.is (scalar_reads c.flat_messages_have_no_sizes.ensures
    c.fields_are_plain.ensures g.S.ViewScalar.scalar c.args.number (g.S.ViewScalar.view c.in-Some.value)
    _ c.put.result)
