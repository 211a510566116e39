use Rattle.std.proofs.Common.{ap, sym, ◌∙◌}
use Rattle.wire_codec.specs.Limits.{Limits, with_elements}
use Rattle.wire_view_uses.proofs.AlikeLemmas.{alike}
use Rattle.wire_view_uses.proofs.both.decode_both.Goals as goal

pub returns : goal.returns
returns c =
    let elements : Limits → Limits = λ limits. with_elements limits c.args.element_memory in
    let first = c.with_element_memory-context.ensures ∙ ap elements c.new-context.ensures in
    let second = c.with_element_memory-context-2.ensures ∙ ap elements c.new-context-2.ensures in
    let same = second ∙ sym first in
    alike c.taken_in_one_way.ensures _ _ _ _ c.decode_view-view.result
    c.decode_message-message.result c.decode_view-view.ensures.ok c.decode_view-view.ensures.err
    (rw same at c.decode_message-message.ensures.ok)
    (rw same at c.decode_message-message.ensures.err)
