use Rattle.std.proofs.Common.{◌++◌, ◌^◌, ◌<◌, [], length, length-append, refl, rules, arith}
use Rattle.std.proofs.lemmas.Result.{err_from_is_err_and}
use Rattle.wire_read.specs.Reading.{Gives, IsDone, at, item}
use Rattle.wire_write.specs.Shortest.{item_text}
use Rattle.wire_write.proofs.Items.{all_counted, seen_more}
use Rattle.wire_write.proofs.shortest.shortest_len.Goals as goal

pub returns-in_err-event-clause-fault : goal.returns-in_err-event-clause-fault
returns-in_err-event-clause-fault c =
    let p = err_from_is_err_and c.from_residual.result c.from_residual.ensures.1 in
    rw (p.1, p.2) (c.reader_stops.ensures _ _ _ _ _ c.loop-event.invariant.1.place
    c.in_err-event.ensures.fault).0

pub loop-event-init : goal.loop-event-init
loop-event-init c =
    ([], record { items = []; place = search rules; is = refl }, refl)

pub loop-event-preserved : goal.loop-event-preserved
loop-event-preserved c =
    let all = c.args.bytes.now in
    let e = c.in-Some.event in
    let (text, seen, counted) = c.loop-event.invariant in
    let more = item_text (item e.number e.value) in
    let given : Gives e all (at c.loop-event.reader all) (at c.next.new.self all) = search rules in (
      text ++ more,
      seen_more c.reader_goes_on.ensures _ _ _ _ _ _ e seen given refl,
      omega (
        arith,
        counted,
        length-append text more,
        c.item_len.ensures,
        c.saturating_add-len.ensures,
      ),
    )

pub returns-clause-ok : goal.returns-clause-ok
returns-clause-ok c =
    let all = c.args.bytes.now in
    let short : length all < 2 ^ 64 = search rules in
    let done : IsDone (at c.loop-event.reader all) = search rules in
    let (text, seen, counted) = c.loop-event.invariant in
    all_counted c.no_text_is_shorter.ensures c.reader_is_done.ensures _ _ _ _ _ seen counted short
    done
