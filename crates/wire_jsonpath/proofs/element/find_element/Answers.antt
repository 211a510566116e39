use Rattle.std.proofs.Common.{◌+◌, drop, arith}
use Rattle.wire_jsonpath.specs.Places.{to_element}
use Rattle.wire_jsonpath.proofs.Holding.{no_element}
use Rattle.wire_jsonpath.proofs.Searching.{array_begun, array_further, at_element}
use Rattle.wire_jsonpath.proofs.element.find_element.Goals as goal

pub loop-next-init : goal.loop-next-init
loop-next-init c =
    array_begun c.args.levels c.args.left c.args.text.now (drop c.args.at c.args.text.now)
    c.first_element-next.result c.first_element-next.ensures.ok c.first_element-next.ensures.fault

pub returns-in-Holding-clause-found : goal.returns-in-Holding-clause-found
returns-in-Holding-clause-found c =
    let (reached, below) = at_element c.args.levels c.args.left c.args.text.now
    (drop c.args.at c.args.text.now) c.loop-next.index c.loop-next.next c.in-Ok-Item.field-0
    c.in-Ok-Item.place c.in-Ok-Item.is (rw c.in-Ok-Item.is at c.in-Ok-Item.field-0-is)
    c.loop-next.invariant in
    to_element c.loop-next.index (drop c.in-Ok-Item.place c.args.text.now) reached
    c.in-Holding.ensures

pub returns-in-Ahead-clause-none : goal.returns-in-Ahead-clause-none
returns-in-Ahead-clause-none c =
    let (reached, below) = at_element c.args.levels c.args.left c.args.text.now
    (drop c.args.at c.args.text.now) c.loop-next.index c.loop-next.next c.in-Ok-Item.field-0
    c.in-Ok-Item.place c.in-Ok-Item.is (rw c.in-Ok-Item.is at c.in-Ok-Item.field-0-is)
    c.loop-next.invariant in
    let (ahead, lasts) = c.in-Ahead.ensures in
    no_element c.args.levels c.args.left (drop c.args.at c.args.text.now) c.loop-next.index
    (drop c.in-Ok-Item.place c.args.text.now) reached
    (λ goes. lasts goes.rest goes.over)
    (λ holds. omega (arith, holds.begun, ahead))

pub loop-next-preserved : goal.loop-next-preserved
loop-next-preserved c =
    let text = c.args.text.now in
    let (reached, below) = at_element c.args.levels c.args.left c.args.text.now
    (drop c.args.at c.args.text.now) c.loop-next.index c.loop-next.next c.in-Ok-Item.field-0
    c.in-Ok-Item.place c.in-Ok-Item.is (rw c.in-Ok-Item.is at c.in-Ok-Item.field-0-is)
    c.loop-next.invariant in
    let (over, onward) = c.in-Over.ensures in
    let further = c.next_element-next in
    array_further c.args.levels c.args.left text (drop c.args.at text) c.loop-next.index
    c.in-Ok-Item.place c.in-Over.after reached over (c.loop-next.index + 1) further.result
    (omega arith) (omega (arith, below, onward.forward)) further.ensures.ok further.ensures.behind
    further.ensures.fault
