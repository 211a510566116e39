use Rattle.std.proofs.Common.{[], ◌∷◌, ◌++◌, rules}
use Rattle.std.proofs.lemmas.Result.{err_from_is_err_and}
use Rattle.wire_read.specs.Reading.{Gives, IsDone, at, item}
use Rattle.wire_read.proofs.validation.validate.Goals as goal

pub returns-in_err-_event-clause-fault : goal.returns-in_err-_event-clause-fault
returns-in_err-_event-clause-fault c =
    let p = err_from_is_err_and c.from_residual.result c.from_residual.ensures.1 in
    rw (p.1, p.2) (c.reader_stops.ensures _ _ _ _ _ c.loop-event.invariant.1
    c.in_err-_event.ensures.fault).0

pub loop-event-preserved : goal.loop-event-preserved
loop-event-preserved c =
    let all = c.args.bytes.now in
    let e = c.in-Some._event in
    let given : Gives e all (at c.loop-event.reader all) (at c.next.new.self all) = search rules in
    let next = item e.number e.value in (
      c.loop-event.invariant.0 ++ next ∷ [],
      c.reader_goes_on.ensures _ _ _ next _ _ given.behind c.loop-event.invariant.1 given.moves,
    )

pub returns-clause-ok : goal.returns-clause-ok
returns-clause-ok c =
    let done : IsDone (at c.loop-event.reader c.args.bytes.now) = search rules in
    let (fs, spelled, fits, is) = c.reader_is_done.ensures _ _ _ _ c.loop-event.invariant.1 done in
    (fs, spelled, fits)
