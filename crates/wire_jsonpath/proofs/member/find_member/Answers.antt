use Rattle.std.proofs.Common.{ap, drop, length, arith}
use Rattle.std.specs.Cow.{cow_str_bytes}
use Rattle.wire_json.proofs.Beside.{name_beside}
use Rattle.wire_json.proofs.OneReading.{one_name}
use Rattle.wire_jsonpath.specs.Places.{to_member}
use Rattle.wire_jsonpath.proofs.Holding.{no_member, same_value}
use Rattle.wire_jsonpath.proofs.Searching.{at_member, object_begun, object_further}
use Rattle.wire_jsonpath.proofs.member.find_member.Goals as goal

pub loop-next-init : goal.loop-next-init
loop-next-init c =
    object_begun c.args.levels c.args.left c.args.text.now (drop c.args.at c.args.text.now)
    c.first_member-next.result c.first_member-next.ensures.ok c.first_member-next.ensures.fault

pub returns-in-Err-Refused-clause-none : goal.returns-in-Err-Refused-clause-none
returns-in-Err-Refused-clause-none c =
    let text = c.args.text.now in
    let item = drop c.in-Ok-Item.place text in
    let (index, reached) = at_member c.args.levels c.args.left c.args.text.now
    (drop c.args.at c.args.text.now) c.loop-next.next c.in-Ok-Item.field-0 c.in-Ok-Item.place
    c.in-Ok-Item.is (rw c.in-Ok-Item.is at c.in-Ok-Item.field-0-is) c.loop-next.invariant in
    let fault = rw c.in-Err-Refused.field-0-is at c.in-Err-Refused.ensures.fault in
    let left = drop c.in-Err-Refused.field-0-0.at text in
    let kind = c.in-Err-Refused.field-0-0.kind in
    no_member c.args.levels c.args.left (drop c.args.at text) index item reached
    (λ goes. name_beside goes.over.name item goes.over.value kind left goes.over.named fault)
    (λ name value named holds. name_beside name item value kind left named fault)

pub returns-in-Holding-clause-found : goal.returns-in-Holding-clause-found
returns-in-Holding-clause-found c =
    let text = c.args.text.now in
    let item = drop c.in-Ok-Item.place text in
    let value = drop c.in-Ok.name.after text in
    let (index, reached) = at_member c.args.levels c.args.left c.args.text.now
    (drop c.args.at c.args.text.now) c.loop-next.next c.in-Ok-Item.field-0 c.in-Ok-Item.place
    c.in-Ok-Item.is (rw c.in-Ok-Item.is at c.in-Ok-Item.field-0-is) c.loop-next.invariant in
    rw c.in_ok-name-in-Holding.ensures.ok
    (to_member index item (cow_str_bytes c.in-Ok.name.value) value reached c.in-Ok.ensures.ok
    c.in-Holding.ensures)

pub returns-in-Ahead-clause-none : goal.returns-in-Ahead-clause-none
returns-in-Ahead-clause-none c =
    let text = c.args.text.now in
    let item = drop c.in-Ok-Item.place text in
    let here = drop c.in-Ok.name.after text in
    let read = cow_str_bytes c.in-Ok.name.value in
    let (index, reached) = at_member c.args.levels c.args.left c.args.text.now
    (drop c.args.at c.args.text.now) c.loop-next.next c.in-Ok-Item.field-0 c.in-Ok-Item.place
    c.in-Ok-Item.is (rw c.in-Ok-Item.is at c.in-Ok-Item.field-0-is) c.loop-next.invariant in
    let (ahead, lasts) = c.in-Ahead.ensures in
    let named = c.in-Ok.ensures.ok in
    no_member c.args.levels c.args.left (drop c.args.at text) index item reached
    (λ goes. lasts goes.rest
    (same_value c.args.levels c.args.left read here item goes.rest named goes.over))
    (λ name value naming holds.
    let same = (one_name name read item value here naming named).1 in
    omega (arith, ap length same, holds.begun, ahead))

pub loop-next-preserved : goal.loop-next-preserved
loop-next-preserved c =
    let text = c.args.text.now in
    let (index, reached) = at_member c.args.levels c.args.left c.args.text.now
    (drop c.args.at c.args.text.now) c.loop-next.next c.in-Ok-Item.field-0 c.in-Ok-Item.place
    c.in-Ok-Item.is (rw c.in-Ok-Item.is at c.in-Ok-Item.field-0-is) c.loop-next.invariant in
    let (over, onward) = c.in-Over.ensures in
    let further = c.next_member-next in
    object_further c.args.levels c.args.left text (drop c.args.at text) index c.in-Ok-Item.place
    c.in-Over.after reached
    (record {
      name = cow_str_bytes c.in-Ok.name.value;
      value = drop c.in-Ok.name.after text;
      named = c.in-Ok.ensures.ok;
      over = over;
    }) further.result further.ensures.ok further.ensures.fault
