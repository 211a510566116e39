use Rattle.std.proofs.Common.{◌≡◌, ℕ, ◌+◌, ◌^◌, ◌<◌, List, [], ◌++◌, length, drop, sym, ap, subst, arith, rules}
use Rattle.std.proofs.lemmas.Result.{err_from_is_err_and}
use Rattle.wire_read.specs.declared.event.Fault.{Fault}
use Rattle.wire_read.specs.Reading.{At, Gives, IsAt, IsDone, Stops, at, groups_of, item, limits_in}
use Rattle.wire_dump.specs.declared.parts.Cut.TheVariants as cuts
use Rattle.wire_dump.specs.declared.stop.Stop.TheVariants as stops
use Rattle.wire_dump.specs.Dumped.{ItemLines, Prints}
use Rattle.wire_dump.proofs.Sent.{lines_behind, more_sent, none_sent}
use Rattle.wire_dump.proofs.Texts.{cut_out, event_text}
use Rattle.wire_dump.proofs.Walk.{Sofar, begun, counted_open, few_open, finished, next_item, stopped}
use Rattle.wire_dump.proofs.parts.write_records.Goals as goal

pub loop-event-init : goal.loop-event-init
loop-event-init g c =
    let all = c.args.bytes.now in
    let r = c.args.reader.now in
    let old = c.args.out.now.items in
    let whole : drop r.place all ≡ all = ap (λ (x : ℕ). drop x all) c.requires.begins.place in
    let start : at r all ≡ record { rest = all; groups = groups_of r; limits = limits_in r } =
    ap (λ (x : List ℕ). record { rest = x; groups = groups_of r; limits = limits_in r }) whole in
    none_sent (g.W.Write.contents c.args.sink.now) old
    (Sofar c.args.layout c.args.place (limits_in r) all (at r all) old)
    (begun c.args.layout c.args.place (limits_in r) all (at r all) old
    (subst (λ (x : At). IsAt (limits_in r) all [] x) (sym start)
    (c.reader_begins.ensures (limits_in r) r all c.requires.begins)) (sym whole))

pub put_item-requires : goal.put_item-requires
put_item-requires g c =
    let all = c.args.bytes.now in
    let e = c.in-Some.event in
    let text = event_text e all in
    let place = c.args.place + e.start in
    let (sent, gone, h) = c.loop-event.invariant in
    let given : Gives e all (at c.loop-event.reader all) (at c.next.new.self all) = search rules in
    let cut = cut_out e all h.front (at c.loop-event.reader all) (at c.next.new.self all) h.parts
    given in
    let few = few_open c.next.new.self c.open_groups.result.now c.open_groups.ensures in
    let placed : place + length text < 2 ^ 64 = omega (arith, cut.within, c.requires.placed) in
    record {
      room = c.requires.room;
      shallow = c.requires.shallow;
      few = few;
      placed = placed;
      is = cut.is;
    }

pub loop-event-preserved : goal.loop-event-preserved
loop-event-preserved g c =
    let y = c.args.layout in
    let all = c.args.bytes.now in
    let e = c.in-Some.event in
    let i = item e.number e.value in
    let text = event_text e all in
    let place = c.args.place + e.start in
    let l = limits_in c.args.reader.now in
    let a = at c.loop-event.reader all in
    let b = at c.next.new.self all in
    let old = c.args.out.now.items in
    let mid = c.loop-event.out.items in
    let new = c.put_item.new.out.items in
    let (sent, gone, h) = c.loop-event.invariant in
    let given : Gives e all a b = search rules in
    let cut = cut_out e all h.front a b h.parts given in
    let puts : Prints y place (ItemLines y (length c.open_groups.result.now) i text) text mid new =
    c.in_ok-put_item.ensures in
    let same = counted_open c.next.new.self c.open_groups.result.now c.open_groups.ensures in
    let counted = subst (λ (x : ℕ). Prints y place (ItemLines y x i text) text mid new) same puts in
    more_sent (g.W.Write.contents c.args.sink.now) (g.W.Write.contents c.loop-event.sink)
    (g.W.Write.contents c.send_part.new.sink) sent new c.send_part.new.out.items
    (Sofar y c.args.place l all b old) gone c.in_default-send_part.ensures
    (next_item c.items_tell_records.ensures c.reader_goes_on.ensures y c.args.place l all i a b
    given.behind text old (sent ++ mid) (sent ++ new) place h given.moves cut.parts cut.is
    (ap (λ (x : ℕ). c.args.place + x) cut.start)
    (lines_behind y place (ItemLines y (length b.groups) i text) text sent mid new counted))

pub loop-event-smaller : goal.loop-event-smaller
loop-event-smaller g c =
    let all = c.args.bytes.now in
    let e = c.in-Some.event in
    let given : Gives e all (at c.loop-event.reader all) (at c.next.new.self all) = search rules in
    c.reader_moves_on.ensures (item e.number e.value) (at c.loop-event.reader all)
    (at c.next.new.self all) given.behind given.moves

pub returns-clause-ok : goal.returns-clause-ok
returns-clause-ok g c =
    let all = c.args.bytes.now in
    let (sent, gone, h) = c.loop-event.invariant in
    let done : IsDone (at c.loop-event.reader all) = search rules in (
      sent,
      gone,
      finished c.items_tell_records.ensures c.reader_is_done.ensures c.args.layout c.args.place
          (limits_in c.args.reader.now) all (at c.loop-event.reader all) c.args.out.now.items
          (sent ++ c.loop-event.out.items) h done,
    )

pub returns-in_err-event-clause-fault : goal.returns-in_err-event-clause-fault
returns-in_err-event-clause-fault g c =
    let all = c.args.bytes.now in
    let p = err_from_is_err_and c.from_residual.result c.from_residual.ensures.1 in
    λ f e.
    let same : p.0 ≡ cuts.Stop (stops.Fault f) = (cc (p.1, e)) in
    let given : p.0 ≡ cuts.Stop (stops.Fault c.in_err-event.field-0.0) = p.2 in
    let is : c.in_err-event.field-0.0 ≡ f = (cc (same, given)) in
    let stops_here : Stops f all (at c.loop-event.reader all) =
    subst (λ (x : Fault). Stops x all (at c.loop-event.reader all)) is
    c.in_err-event.ensures.fault in
    let kept : c.next.new.self ≡ c.loop-event.reader = search rules in
    let (sent, gone, h) = c.loop-event.invariant in (
      sent,
      gone,
      rw kept (stopped c.items_tell_records.ensures c.reader_stops.ensures c.args.layout
          c.args.place (limits_in c.args.reader.now) all (at c.loop-event.reader all) f
          c.args.out.now.items (sent ++ c.loop-event.out.items) h stops_here),
    )
