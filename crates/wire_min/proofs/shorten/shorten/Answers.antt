use Rattle.std.proofs.Common.{[], length, ap, refl, rules, arith, length-drop}
use Rattle.std.proofs.lemmas.Result.{err_from_is_err_and}
use Rattle.wire_read.specs.Reading.{IsDone, at}
use Rattle.wire_min.specs.Shorten.{Takes, item_of}
use Rattle.wire_min.proofs.Shortening.{all_shortened, has_room, one_more, same_rest}
use Rattle.wire_min.proofs.shorten.shorten.Goals as goal

pub returns-in_err-item-clause-fault : goal.returns-in_err-item-clause-fault
returns-in_err-item-clause-fault c =
    let p = err_from_is_err_and c.from_residual.result c.from_residual.ensures.1 in
    let stops = c.in_err-item.ensures.fault in
    rw (p.1, p.2) (c.reader_is_stuck.ensures _ _ _ _ _ _ _ c.loop-item.invariant.place
    stops.goes_on stops.part)

pub loop-item-init : goal.loop-item-init
loop-item-init c = record {
  items = [];
  place = search rules;
  is = refl;
  within = omega (arith, length-drop c.within-reader.result.place c.args.bytes.now);
}

pub put_item-len-requires-clause-room : goal.put_item-len-requires-clause-room
put_item-len-requires-clause-room c =
    let now = c.loop-item.bytes in
    let item = c.in-Some.item in
    let takes : Takes item now (at c.loop-item.reader now) (at c.next_item.new.reader now) =
    search rules in
    has_room c.no_tag_text_is_shorter.ensures c.no_text_is_shorter.ensures _ _ now _
    c.next_item.new.reader _ item c.loop-item.invariant takes

pub loop-item-preserved : goal.loop-item-preserved
loop-item-preserved c =
    let now = c.loop-item.bytes in
    let item = c.in-Some.item in
    let takes : Takes item now (at c.loop-item.reader now) (at c.next_item.new.reader now) =
    search rules in
    one_more c.no_tag_text_is_shorter.ensures c.no_text_is_shorter.ensures _ _ now _
    c.next_item.new.reader _ item c.loop-item.invariant takes _ _ c.put_item-len.ensures
    c.reader_goes_on.ensures

pub loop-item-smaller : goal.loop-item-smaller
loop-item-smaller c =
    let now = c.loop-item.bytes in
    let item = c.in-Some.item in
    let takes : Takes item now (at c.loop-item.reader now) (at c.next_item.new.reader now) =
    search rules in
    let less = c.reader_moves_on.ensures (item_of item now) _ _ takes.behind takes.moves in
    let same = same_rest c.no_tag_text_is_shorter.ensures c.no_text_is_shorter.ensures _ _ now _
    c.next_item.new.reader _ item c.loop-item.invariant takes _ _ c.put_item-len.ensures in
    omega (arith, less, ap length same)

pub returns-clause-ok : goal.returns-clause-ok
returns-clause-ok c =
    let done : IsDone (at c.loop-item.reader c.loop-item.bytes) = search rules in
    all_shortened c.reader_is_done.ensures _ _ _ _ c.loop-item.invariant done
