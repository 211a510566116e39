use Rattle.std.proofs.Common.{◌∙◌, [], ap, sym}
use Rattle.wire_views.specs.Entries.{put_last}
use Rattle.wire_views.proofs.InOrder.{one_run_more}
use Rattle.wire_views.proofs.ordering.last_of_each.Goals as goal

pub loop-entry-preserved : goal.loop-entry-preserved
loop-entry-preserved g c =
    let entry = c.in-Some.entry in
    c.in_ok-put_last.ensures
    ∙ ap (λ m. put_last g.K.Ord.cmp m entry.0 entry.1) c.loop-entry.invariant
    ∙ sym (one_run_more g.K.Ord.cmp [] c.loop-entry.yielded entry)
