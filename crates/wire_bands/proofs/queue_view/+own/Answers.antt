use Rattle.std.proofs.Common.{refl, sym, ◌∙◌}
use Rattle.wire_bands.specs.Queue.{Queue-Value, queue-behind-row, queue-behind-view_row, queue-one}
use Rattle.wire_bands.specs.Queue.{queue-view_one}
use Rattle.wire_bands.specs.declared.queue.Queue.{Queue, Queue-F}
use Rattle.wire_bands.specs.declared.queue.Queue.TheFolds.{fold-roll-Queue}
use Rattle.wire_bands.specs.declared.queue_view.QueueView.{fold_out-QueueView, out-QueueView}
use Rattle.wire_bands.proofs.queue_view.+own.Goals as goal

pub owned_queue-returns-clause-ok : goal.owned_queue-returns-clause-ok
owned_queue-returns-clause-ok t c =
    let made : Queue-F Queue = record {
      behind = c.in_ok-own_behind.own_behind;
      unknown = c.in_ok-own_unknown.own_unknown;
    } in
    fold-roll-Queue Queue-Value queue-one made
    ∙ rw (
      queue-behind-row made made.behind refl,
      c.in_ok-own_behind.ensures.ok,
      queue-behind-view_row (out-QueueView c.args.view.now)
          (out-QueueView c.args.view.now).behind refl,
      c.in_ok-own_unknown.ensures.ok,
      c.deref.ensures.value,
    ) refl
    ∙ sym (fold_out-QueueView Queue-Value queue-view_one c.args.view.now)
