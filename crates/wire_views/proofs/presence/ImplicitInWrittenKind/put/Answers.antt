use Rattle.std.proofs.Common.{◌∙◌, sym}
use Rattle.wire_fields.proofs.Scalars.{scalar_reads, implicit_written}
use Rattle.wire_views.proofs.presence.ImplicitInWrittenKind.put.Goals as goal

pub returns-clause-read : goal.returns-clause-read
returns-clause-read g c =
    let t = g.S.ViewScalar.scalar in
    let v = g.S.ViewScalar.view c.args.held.now in
    rw (implicit_written t c.args.number v (sym c.is_default.ensures ∙ c.if-is_default.false))
    (scalar_reads c.flat_messages_have_no_sizes.ensures c.fields_are_plain.ensures t
    c.args.number v _ c.put.result)
