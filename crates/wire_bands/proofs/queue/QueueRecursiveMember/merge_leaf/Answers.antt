use Rattle.std.proofs.Common.{refl}
use Rattle.wire_bands.specs.Queue.{Queue-Value, queue-known, queue-leaf, queue-one}
use Rattle.wire_bands.specs.declared.queue.Queue.{fold_out-Queue}
use Rattle.wire_fields.specs.Arms.{rest_err}
use Rattle.wire_fields.specs.Shape.{keeps}
use Rattle.wire_bands.proofs.queue.QueueRecursiveMember.merge_leaf.Goals as goal

pub returns-clause-err : goal.returns-clause-err
returns-clause-err g c =
    rw (fold_out-Queue Queue-Value queue-one c.args.self.now)
    (rest_err queue-known.owns queue-known.takes keeps _ (λ p. refl)
    _ _ _ _ c.keep.result c.keep.ensures.err)
