use Rattle.std.proofs.Common.{sym}
use Rattle.std.proofs.lemmas.Result.{IfErr-weaker, on_ok_weaker}
use Rattle.wire_fields.proofs.Messages.{group_taken, no_group}
use Rattle.wire_views.proofs.encoding.DelimitedViewEncoding.merge.Goals as goal

pub returns-clause-ok : goal.returns-clause-ok
returns-clause-ok g c =
    on_ok_weaker c.merge_group.result (λ h. rw (sym c.field_number.ensures.number)
    (group_taken g.M.MessageView.takes c.group_is_list.ensures c.levels_and_counts.ensures.levels
    _ _ _ _ _ c.in_ok-check_wire_type.ensures.ok _ _ _ h)) c.merge_group.ensures.ok

pub returns-clause-err : goal.returns-clause-err
returns-clause-err g c =
    IfErr-weaker c.merge_group.result _ _ (λ e none other. rw (sym c.field_number.ensures.number)
    (no_group g.M.MessageView.takes c.group_is_list.ensures c.levels_and_counts.ensures.levels
    _ _ _ _ _ c.in_ok-check_wire_type.ensures.ok (none other))) c.merge_group.ensures.err
