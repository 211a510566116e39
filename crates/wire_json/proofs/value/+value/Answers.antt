use Rattle.std.proofs.Common.{◌≡◌, [], drop, Some, None, arith}
use Rattle.std.proofs.lemmas.Result.{err_from_is_err_and}
use Rattle.wire_json.specs.declared.kind.Kind.TheVariants as kinds
use Rattle.wire_json.specs.Fault.{no_value, deep_array, deep_object, bad_name, bad_value}
use Rattle.wire_json.specs.Kind.{kind_begun}
use Rattle.wire_json.proofs.Elements as elements
use Rattle.wire_json.proofs.Members as members
use Rattle.wire_json.proofs.Nested.{behind_further, array_value, array_fault, object_value, object_fault}
use Rattle.wire_json.proofs.Scalars.{string_value, string_fault}
use Rattle.wire_json.proofs.value.+value.Goals as goal

-- ---- arrays

pub skip_elements-loop-next-init : goal.skip_elements-loop-next-init
skip_elements-loop-next-init t c =
    let (inside, opens, first) = c.in_ok-next.ensures.ok in
    record {
      sofar = (inside, [], opens, elements.opened c.args.levels c.args.text.now inside c.in_ok-next.next first);
      onward = c.in_ok-next.ensures.behind;
    }

pub skip_elements-returns-in_err-next-in-Item-clause-fault : goal.skip_elements-returns-in_err-next-in-Item-clause-fault
skip_elements-returns-in_err-next-in-Item-clause-fault t c =
    let r = c.from_residual-in_err-next-in-Item in
    let p = err_from_is_err_and r.result r.ensures.1 in
    let text = c.args.text.now in
    let (inside, before, opens, state) = c.loop-next.invariant.sofar in
    let here = rw c.in-Item.is at state in
    let (e, reads, fits) = c.in_ok-after-in-Item.ensures.ok in
    let fault = c.in_err-next-in-Item.field-0.0 in
    rw (p.1, p.2) (
      inside,
      opens,
      elements.stops c.args.levels text inside before c.in-Item.place
          c.in_ok-after-in-Item.after e here reads fits fault.kind (drop fault.at text)
          c.in_err-next-in-Item.ensures.fault,
    )

pub skip_elements-loop-next-preserved : goal.skip_elements-loop-next-preserved
skip_elements-loop-next-preserved t c =
    let text = c.args.text.now in
    let (inside, before, opens, state) = c.loop-next.invariant.sofar in
    let here = rw c.in-Item.is at state in
    let order = rw c.in-Item.is at c.loop-next.invariant.onward in
    let (e, reads, fits) = c.in_ok-after-in-Item.ensures.ok in
    let next = c.in_ok-next-in-Item in
    record {
      sofar = (
        inside,
        _,
        opens,
        elements.goes_on c.args.levels text inside before c.in-Item.place
            c.in_ok-after-in-Item.after e here reads fits next.next next.ensures.ok,
      );
      onward = behind_further c.args.at c.in_ok-after-in-Item.after next.next text
          (omega (arith, order, c.in_ok-after-in-Item.ensures.behind.forward)) next.ensures.behind;
    }

-- ---- objects

pub skip_members-loop-next-init : goal.skip_members-loop-next-init
skip_members-loop-next-init t c =
    let (inside, opens, first) = c.in_ok-next.ensures.ok in
    record {
      sofar = (inside, [], opens, members.opened c.args.levels c.args.text.now inside c.in_ok-next.next first);
      onward = c.in_ok-next.ensures.behind;
    }

pub skip_members-returns-in_err-value-in-Item-clause-fault : goal.skip_members-returns-in_err-value-in-Item-clause-fault
skip_members-returns-in_err-value-in-Item-clause-fault t c =
    let r = c.from_residual-in_err-value-in-Item in
    let p = err_from_is_err_and r.result r.ensures.1 in
    let (inside, before, opens, state) = c.loop-next.invariant.sofar in
    let here = rw c.in-Item.is at state in
    let fault = c.in_err-value-in-Item.field-0.0 in
    rw (p.1, p.2) (
      inside,
      opens,
      here.fault fault.kind (drop fault.at c.args.text.now)
          (bad_name c.in_err-value-in-Item.ensures.fault),
    )

pub skip_members-returns-in_err-after-in-Item-clause-fault : goal.skip_members-returns-in_err-after-in-Item-clause-fault
skip_members-returns-in_err-after-in-Item-clause-fault t c =
    let r = c.from_residual-in_err-after-in-Item in
    let p = err_from_is_err_and r.result r.ensures.1 in
    let text = c.args.text.now in
    let (inside, before, opens, state) = c.loop-next.invariant.sofar in
    let here = rw c.in-Item.is at state in
    let (name, named) = c.in_ok-value-in-Item.ensures.ok in
    let fault = c.in_err-after-in-Item.field-0.0 in
    rw (p.1, p.2) (
      inside,
      opens,
      here.fault fault.kind (drop fault.at text)
          (bad_value name (drop c.in_ok-value-in-Item.value text) named
          c.in_err-after-in-Item.ensures.fault),
    )

pub skip_members-returns-in_err-next-in-Item-clause-fault : goal.skip_members-returns-in_err-next-in-Item-clause-fault
skip_members-returns-in_err-next-in-Item-clause-fault t c =
    let r = c.from_residual-in_err-next-in-Item in
    let p = err_from_is_err_and r.result r.ensures.1 in
    let text = c.args.text.now in
    let (inside, before, opens, state) = c.loop-next.invariant.sofar in
    let here = rw c.in-Item.is at state in
    let (name, named) = c.in_ok-value-in-Item.ensures.ok in
    let (e, reads, fits) = c.in_ok-after-in-Item.ensures.ok in
    let fault = c.in_err-next-in-Item.field-0.0 in
    rw (p.1, p.2) (
      inside,
      opens,
      members.stops c.args.levels text inside before c.in-Item.place
          c.in_ok-after-in-Item.after name e here
          (record { value = drop c.in_ok-value-in-Item.value text; named = named; reads = reads; fits = fits })
          fault.kind (drop fault.at text) c.in_err-next-in-Item.ensures.fault,
    )

pub skip_members-loop-next-preserved : goal.skip_members-loop-next-preserved
skip_members-loop-next-preserved t c =
    let text = c.args.text.now in
    let (inside, before, opens, state) = c.loop-next.invariant.sofar in
    let here = rw c.in-Item.is at state in
    let order = rw c.in-Item.is at c.loop-next.invariant.onward in
    let (name, named) = c.in_ok-value-in-Item.ensures.ok in
    let (e, reads, fits) = c.in_ok-after-in-Item.ensures.ok in
    let next = c.in_ok-next-in-Item in
    record {
      sofar = (
        inside,
        _,
        opens,
        members.goes_on c.args.levels text inside before c.in-Item.place
            c.in_ok-after-in-Item.after name e here
            (record { value = drop c.in_ok-value-in-Item.value text; named = named; reads = reads; fits = fits })
            next.next next.ensures.ok,
      );
      onward = behind_further c.args.at c.in_ok-after-in-Item.after next.next text
          (omega (arith, order, c.in_ok-value-in-Item.ensures.behind, c.in_ok-after-in-Item.ensures.behind.forward)) next.ensures.behind;
    }

-- ---- values

pub skip_value-returns-then-levels-eq0-clause-fault : goal.skip_value-returns-then-levels-eq0-clause-fault
skip_value-returns-then-levels-eq0-clause-fault t c =
    let begun : kind_begun (drop c.args.at c.args.text.now) ≡ Some kinds.Array = cc in
    rw c.too_deep.ensures (deep_array c.if-levels-eq0.true begun)

pub skip_value-returns-else-levels-eq0-clause-ok : goal.skip_value-returns-else-levels-eq0-clause-ok
skip_value-returns-else-levels-eq0-clause-ok t c =
    array_value c.args.text.now (drop c.args.at c.args.text.now) c.args.levels (omega arith)
    c.skip_elements.result c.skip_elements.ensures.ok

pub skip_value-returns-else-levels-eq0-clause-fault : goal.skip_value-returns-else-levels-eq0-clause-fault
skip_value-returns-else-levels-eq0-clause-fault t c =
    array_fault c.args.text.now (drop c.args.at c.args.text.now) c.args.levels (omega arith)
    c.skip_elements.result c.skip_elements.ensures.fault

pub skip_value-returns-then-levels-eq0-2-clause-fault : goal.skip_value-returns-then-levels-eq0-2-clause-fault
skip_value-returns-then-levels-eq0-2-clause-fault t c =
    let begun : kind_begun (drop c.args.at c.args.text.now) ≡ Some kinds.Object = cc in
    rw c.too_deep-then-levels-eq0-2.ensures (deep_object c.if-levels-eq0-2.true begun)

pub skip_value-returns-else-levels-eq0-2-clause-ok : goal.skip_value-returns-else-levels-eq0-2-clause-ok
skip_value-returns-else-levels-eq0-2-clause-ok t c =
    object_value c.args.text.now (drop c.args.at c.args.text.now) c.args.levels (omega arith)
    c.skip_members.result c.skip_members.ensures.ok

pub skip_value-returns-else-levels-eq0-2-clause-fault : goal.skip_value-returns-else-levels-eq0-2-clause-fault
skip_value-returns-else-levels-eq0-2-clause-fault t c =
    object_fault c.args.text.now (drop c.args.at c.args.text.now) c.args.levels (omega arith)
    c.skip_members.result c.skip_members.ensures.fault

pub skip_value-returns-in-None-clause-fault : goal.skip_value-returns-in-None-clause-fault
skip_value-returns-in-None-clause-fault t c =
    let none : kind_begun (drop c.args.at c.args.text.now) ≡ None = cc in
    rw c.syntax.ensures (no_value none)

pub skip_value-returns-in-Some-String-clause-ok : goal.skip_value-returns-in-Some-String-clause-ok
skip_value-returns-in-Some-String-clause-ok t c =
    string_value c.args.text.now (drop c.args.at c.args.text.now) c.args.levels
    c.skip_string.result c.skip_string.ensures.ok

pub skip_value-returns-in-Some-String-clause-fault : goal.skip_value-returns-in-Some-String-clause-fault
skip_value-returns-in-Some-String-clause-fault t c =
    let begun : kind_begun (drop c.args.at c.args.text.now) ≡ Some kinds.String = cc in
    string_fault c.args.text.now (drop c.args.at c.args.text.now) c.args.levels begun
    c.skip_string.result c.skip_string.ensures.fault
