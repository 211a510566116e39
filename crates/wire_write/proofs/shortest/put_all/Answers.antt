use Rattle.std.proofs.Common.{◌++◌, [], Ok, refl, rules, sym}
use Rattle.std.proofs.lemmas.Result.{err_from_is_err_and}
use Rattle.wire_read.specs.Reading.{Gives, IsDone, Stops, at, item}
use Rattle.wire_write.specs.Shortest.{item_text}
use Rattle.wire_write.proofs.Items.{ahead, all_seen, no_stop, refused_ahead, seen_more}
use Rattle.wire_write.proofs.shortest.put_all.Goals as goal

pub loop-event-init : goal.loop-event-init
loop-event-init c =
    let pieces = c.piece_by_piece.ensures in (
      [],
      record { items = []; place = search rules; is = refl },
      pieces.done _ _ _ (pieces.start [] _),
    )

pub loop-event-preserved : goal.loop-event-preserved
loop-event-preserved c =
    let all = c.args.bytes.now in
    let e = c.in-Ok-Some.event in
    let more = item_text (item e.number e.value) in
    let (text, seen, written) = c.loop-event.invariant in
    let given : Gives e all (at c.loop-event.reader all) (at c.next.new.self all) = search rules in (
      text ++ more,
      seen_more c.reader_goes_on.ensures _ _ _ _ _ _ e seen given refl,
      c.two_parts.ensures.behind text more _ _ _ tt (Ok tt) written (c.put_is_a_write.ensures _ _ _ _ c.in_ok-put.ensures),
    )

pub returns-in_err-put : goal.returns-in_err-put
returns-in_err-put c =
    let p = err_from_is_err_and c.from_residual.result c.from_residual.ensures.1 in
    let all = c.args.bytes.now in
    let (text, seen, written) = c.loop-event.invariant in
    let (fs, decodes) = c.requires in
    let given : Gives c.in-Ok-Some.event all (at c.loop-event.reader all) (at c.next.new.self all) =
    search rules in
    let (rest, is) = ahead c.events_are_in_front.ensures c.reader_goes_on.ensures _ _ _ _ _ _ _
    decodes seen given in (
      fs,
      decodes,
      rw (p.1, p.2) (refused_ahead c.two_parts.ensures _ text _ rest _ _ _ _ is written
          (c.put_is_a_write.ensures _ _ _ _ c.in_err-put.ensures)),
    )

pub returns-in_default : goal.returns-in_default
returns-in_default c =
    let (text, seen, written) = c.loop-event.invariant in
    let done : IsDone (at c.loop-event.reader c.args.bytes.now) = search rules in
    let (fs, decodes, is) = all_seen c.reader_is_done.ensures _ _ _ _ seen done in
    (fs, decodes, rw (sym is) written)

pub returns-in_default-2 : goal.returns-in_default-2
returns-in_default-2 c =
    let all = c.args.bytes.now in
    let (text, seen, written) = c.loop-event.invariant in
    let (fs, decodes) = c.requires in
    let stops : Stops c.in_default.field-0 all (at c.loop-event.reader all) = search rules in
    absurd (no_stop c.reader_stops.ensures c.no_list_beside_fault.ensures c.whole_input.ensures
    _ _ _ _ _ _ decodes seen stops)
