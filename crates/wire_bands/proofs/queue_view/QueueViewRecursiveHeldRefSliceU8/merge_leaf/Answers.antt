use Rattle.std.proofs.Common.{refl}
use Rattle.wire_bands.specs.Queue.{Queue-Value, queue-known, queue-leaf, queue-view_one}
use Rattle.wire_bands.specs.declared.queue_view.QueueView.{fold_out-QueueView}
use Rattle.wire_fields.specs.Arms.{rest_err}
use Rattle.wire_fields.specs.Shape.{keeps}
use Rattle.wire_bands.proofs.queue_view.QueueViewRecursiveHeldRefSliceU8.merge_leaf.Goals as goal

pub returns-clause-err : goal.returns-clause-err
returns-clause-err c =
    rw (fold_out-QueueView Queue-Value queue-view_one c.args.self.now)
    (rest_err queue-known.owns queue-known.takes keeps _ (λ p. refl)
    _ _ _ _ c.keep_span.result c.keep_span.ensures.err)
