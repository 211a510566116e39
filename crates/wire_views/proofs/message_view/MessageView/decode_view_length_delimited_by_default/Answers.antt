use Rattle.std.proofs.Common.{ap, ◌∙◌}
use Rattle.wire_codec.specs.Limits.{with_elements}
use Rattle.wire_views.proofs.message_view.MessageView.decode_view_length_delimited_by_default.Goals as goal

pub returns-clause-err : goal.returns-clause-err
returns-clause-err g c =
    rw (c.with_element_memory-context.ensures ∙ ap (λ l. with_elements l 33554432)
    c.new-context.ensures)
    at c.decode_view_length_delimited.ensures.err
