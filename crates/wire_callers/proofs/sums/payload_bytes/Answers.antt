use Rattle.std.proofs.Common.{◌≡◌, ◌+◌, nat_eq, rules}
use Rattle.std.proofs.lemmas.Result.{err_from_is_err_and}
use Rattle.wire_callers.specs.PayloadBytes.{payload_length}
use Rattle.wire_read.specs.Reading.{Gives, IsDone, at}
use Rattle.wire_callers.proofs.FieldBytes.{all_seen, one_more}
use Rattle.wire_callers.proofs.sums.payload_bytes.Goals as goal

pub returns-in_err-event-clause-fault : goal.returns-in_err-event-clause-fault
returns-in_err-event-clause-fault c =
    let p = err_from_is_err_and c.from_residual.result c.from_residual.ensures.1 in
    rw (p.1, p.2) (c.reader_stops.ensures _ _ _ _ _ c.loop-event.invariant.place
    c.in_err-event.ensures.fault).0

pub loop-event-preserved : goal.loop-event-preserved
loop-event-preserved c =
    let all = c.args.bytes.now in
    let e = c.in-Some.event in
    let given : Gives e all (at c.loop-event.reader all) (at c.next.new.self all) = search rules in
    let same : c.loop-event.sum + c.length_if-sum.result
    ≡ c.loop-event.sum + payload_length (nat_eq e.number c.args.number) e.value = search rules in
    one_more c.reader_goes_on.ensures c.reader_moves_on.ensures _ _ _ _ _ _ _ _
    c.loop-event.invariant given same

pub returns-clause-ok : goal.returns-clause-ok
returns-clause-ok c =
    let done : IsDone (at c.loop-event.reader c.args.bytes.now) = search rules in
    all_seen c.reader_is_done.ensures _ _ _ _ _ c.loop-event.invariant done
