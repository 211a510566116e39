use Rattle.std.proofs.Common.{rules, ◌≡◌, [], ◌∷◌, ◌++◌}
use Rattle.wire_callers.specs.CounterLog.{none, more}
use Rattle.wire_callers.proofs.log.counters_of.Goals as goal

pub loop-buf-init : goal.loop-buf-init
loop-buf-init g c = rw (c.new-counters.ensures.items) none

pub loop-buf-preserved : goal.loop-buf-preserved
loop-buf-preserved g c =
    let taken = c.in_ok-counter.ensures.ok in
    let pushed : c.push.new.self.items ≡ c.loop-buf.counters.items ++ c.in_ok-counter.counter ∷ [] =
    search rules in
    rw (pushed) (more taken.0 c.in_ok-counter.counter c.loop-buf.invariant taken.1)
