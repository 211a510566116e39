use Rattle.wire_fields.proofs.Scalars.{scalar_reads}
use Rattle.wire_views.proofs.presence.AlwaysInWrittenKind.put.Goals as goal

pub returns-clause-read : goal.returns-clause-read
returns-clause-read g c =
    scalar_reads c.flat_messages_have_no_sizes.ensures c.fields_are_plain.ensures
    g.S.ViewScalar.scalar c.args.number (g.S.ViewScalar.view c.args.held.now) _ c.put.result
