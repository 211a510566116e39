use Rattle.std.proofs.Common.{◌∙◌, sym}
use Rattle.wire_fields.proofs.Measuring.{unsized}
use Rattle.wire_fields.proofs.Scalars.{scalar_sizes, implicit_written}
use Rattle.wire_views.proofs.presence.ImplicitInWrittenKind.len.Goals as goal

pub returns-clause-ok : goal.returns-clause-ok
returns-clause-ok g c =
    let t = g.S.ViewScalar.scalar in
    let v = g.S.ViewScalar.view c.args.held.now in
    rw (implicit_written t c.args.number v (sym c.is_default.ensures ∙ c.if-is_default.false))
    (unsized _ _ _ (scalar_sizes c.fields_are_plain.ensures t c.args.number v) c.len.ensures)
