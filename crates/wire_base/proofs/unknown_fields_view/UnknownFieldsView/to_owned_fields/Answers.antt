use Rattle.std.proofs.Common.{ap, ◌∙◌}
use Rattle.wire_base.specs.Limits.{with_unknown_bytes}
use Rattle.wire_base.specs.Spans.{fields_charge}
use Rattle.wire_base.proofs.Spans.{only_charged}
use Rattle.wire_base.proofs.unknown_fields_view.UnknownFieldsView.to_owned_fields.Goals as goal

pub returns-clause-only : goal.returns-clause-only
returns-clause-only c =
    let read = c.replay.ensures in
    only_charged _
    (fields_charge c.self.inside.depth c.self.inside.fields c.self.inside.bytes) c.replay.result
    (rw (← c.self.view_is) c.self.invariant) read.each
    (rw (c.with_unknown_bytes.ensures
    ∙ ap (λ l. with_unknown_bytes l c.self.inside.bytes) c.new-context.ensures) at read.fault)
