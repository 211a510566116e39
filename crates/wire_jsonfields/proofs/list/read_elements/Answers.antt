use Rattle.std.proofs.Common.{◌-◌, map, drop, arith}
use Rattle.wire_json.specs.Json.{array, element, no_element}
use Rattle.wire_json.proofs.Nested.{behind_further}
use Rattle.wire_jsonfields.specs.Lists.{elements_joined}
use Rattle.wire_jsonfields.proofs.Listing.{depth_more, element_refused, list_goes_on, list_opened, list_stops, map_more, none_so_deep, one_meant_more}
use Rattle.wire_jsonfields.proofs.list.read_elements.Goals as goal

pub loop-next-init : goal.loop-next-init
loop-next-init g c =
    let text = c.args.text.now in
    let (inside, opens, first) = c.in-Ok.ensures.ok in
    record {
      sofar = (
        inside,
        no_element,
        opens,
        list_opened text inside c.in-Ok.next first,
        omega (arith, c.if-levels-eq0.false),
        rw c.new-list.ensures.items tt,
      );
      onward = c.in-Ok.ensures.behind;
    }

pub returns-then-levels-eq0-clause-err : goal.returns-then-levels-eq0-clause-err
returns-then-levels-eq0-clause-err g c = λ other.
    none_so_deep g.V.JsonValue.means c.args.levels (drop c.args.at c.args.text.now)
    c.if-levels-eq0.true

pub returns-in-End-clause-ok : goal.returns-in-End-clause-ok
returns-in-End-clause-ok g c =
    let (inside, so, opens, state, fits, means) = c.loop-next.invariant.sofar in
    let reads = rw c.in-End.is at state in
    (array so, (inside, opens, reads), fits, means)

pub returns-in-Err-read_json-clause-err : goal.returns-in-Err-read_json-clause-err
returns-in-Err-read_json-clause-err g c = λ other.
    let text = c.args.text.now in
    let (inside, so, opens, state, fits, means) = c.loop-next.invariant.sofar in
    let here = rw c.in-Item.is at state in
    element_refused g.V.JsonValue.means c.args.levels (drop c.args.at text) inside opens so
    (drop c.in-Item.place text) here (c.in-Err-read_json.ensures.err other)

pub returns-in-Err-next_element-clause-err : goal.returns-in-Err-next_element-clause-err
returns-in-Err-next_element-clause-err g c = λ other.
    let text = c.args.text.now in
    let (inside, so, opens, state, fits, means) = c.loop-next.invariant.sofar in
    let here = rw c.in-Item.is at state in
    let (e, reads, shallow, meant) = c.in-Ok-read_json.ensures.ok in
    let fault = c.in-Err-next_element.fault in
    list_stops g.V.JsonValue.means c.args.levels (drop c.args.at text) inside opens so
    (drop c.in-Item.place text) (drop c.in-Ok-read_json.after text) e here reads fault.kind
    (drop fault.at text) c.in-Err-next_element.ensures.fault

pub loop-next-preserved : goal.loop-next-preserved
loop-next-preserved g c =
    let text = c.args.text.now in
    let view = g.V.JsonValue.view in
    let (inside, so, opens, state, fits, means) = c.loop-next.invariant.sofar in
    let here = rw c.in-Item.is at state in
    let order = rw c.in-Item.is at c.loop-next.invariant.onward in
    let after = c.in-Ok-read_json.after in
    let held = c.in-Ok-read_json.held in
    let (e, reads, shallow, meant) = c.in-Ok-read_json.ensures.ok in
    let next = c.in-Ok-next_element in
    let more = depth_more so e (c.args.levels - 1) (omega (arith, fits)) shallow in
    record {
      sofar = (
        inside,
        elements_joined so (element e no_element),
        opens,
        list_goes_on text inside so c.in-Item.place after e here reads next.next next.ensures.ok,
        omega (arith, fits, more),
        rw (c.in_ok-push_held-in-Ok-read_json.ensures, map_more view c.loop-next.list.items held)
            (one_meant_more g.V.JsonValue.means so (map view c.loop-next.list.items) e (view held)
            means meant),
      );
      onward = behind_further c.args.at after next.next text
          (omega (arith, order, c.in-Ok-read_json.ensures.behind.forward)) next.ensures.behind;
    }
