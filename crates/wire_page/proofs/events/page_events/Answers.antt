use Rattle.std.proofs.Common.{◌≡◌, sym, subst, rules, arith}
use Rattle.wire_read.specs.Reading.{Gives, IsDone, Stops, at}
use Rattle.wire_page.specs.Batch.{Fills, done, fault, full}
use Rattle.wire_page.proofs.Telling.{all-filled, fills-more}
use Rattle.wire_page.proofs.events.page_events.Goals as goal

pub loop-count-preserved : goal.loop-count-preserved
loop-count-preserved c =
    let all = c.args.bytes.now in
    let given : Gives c.in-Ok-Some.event all (at c.loop-count.reader all) (at c.next.new.self all)
    = search rules in
    fills-more _ _ _ _ _ _ _ _ _ (omega (arith, c.loop-count-test.true, c.loop-count.auto.room)) c.loop-count.invariant given
    (search rules)

pub returns-in-Ok-None : goal.returns-in-Ok-None
returns-in-Ok-None c =
    let all = c.args.bytes.now in
    let is_done : IsDone (at c.loop-count.reader all) = search rules in
    let same : c.next.new.self ≡ c.loop-count.reader = search rules in
    record {
      fills = subst (λ r. Fills all (at c.args.reader.now all) (at r all) c.args.room.now
          c.loop-count.room c.loop-count.count) (sym same) c.loop-count.invariant;
      ends = done (subst (λ r. IsDone (at r all)) (sym same) is_done) c.stopped.ensures;
    }

pub returns-in-Err : goal.returns-in-Err
returns-in-Err c =
    let all = c.args.bytes.now in
    let stops : Stops c.in-Err.fault all (at c.loop-count.reader all) = search rules in
    let same : c.next.new.self ≡ c.loop-count.reader = search rules in
    record {
      fills = subst (λ r. Fills all (at c.args.reader.now all) (at r all) c.args.room.now
          c.loop-count.room c.loop-count.count) (sym same) c.loop-count.invariant;
      ends = fault c.in-Err.fault (subst (λ r. Stops c.in-Err.fault all (at r all)) (sym same) stops)
          c.tell_fault.ensures;
    }

pub returns : goal.returns
returns c =
    let i = c.loop-count.invariant in
    record {
      fills = i;
      ends = full (all-filled _ _ _ _ _ _ i c.loop-count.auto.room
          c.loop-count-test.false) c.stopped-2.ensures;
    }
