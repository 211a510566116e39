use Rattle.std.proofs.Common.{[], drop, arith}
use Rattle.std.proofs.lemmas.Result.{err_from_is_err_and}
use Rattle.std.specs.Cow.{cow_str_bytes}
use Rattle.wire_json.specs.Fault.{NameFault, bad_name, bad_value}
use Rattle.wire_json.specs.Json.{no_member}
use Rattle.wire_json.proofs.Members as members
use Rattle.wire_json.proofs.Nested.{behind_further}
use Rattle.wire_jsonfields.proofs.Gathering.{StandsBroken, broken_here, goes_on, opened, passed_on, with_member}
use Rattle.wire_jsonfields.proofs.object.read_members.Goals as goal

pub loop-next-init : goal.loop-next-init
loop-next-init c =
    let text = c.args.text.now in
    let (inside, opens, first) = c.in_ok-next.ensures.ok in
    record {
      sofar = (
        inside,
        [],
        no_member,
        opens,
        members.opened c.args.levels text inside c.in_ok-next.next first,
        rw c.new-members.ensures.items (opened c.args.levels text inside c.in_ok-next.next first),
      );
      onward = c.in_ok-next.ensures.behind;
    }

pub returns-in_err-name-in-Item-clause-err : goal.returns-in_err-name-in-Item-clause-err
returns-in_err-name-in-Item-clause-err c =
    let r = c.from_residual-in_err-name-in-Item in
    let p = err_from_is_err_and r.result r.ensures.1 in
    let text = c.args.text.now in
    let old = drop c.args.at text in
    let levels = c.args.levels in
    let (inside, before, so, opens, state, gathered) = c.loop-next.invariant.sofar in
    let here = rw c.in-Item.is at state in
    rw (p.1, p.2) (passed_on text (StandsBroken old levels) (NameFault (drop c.in-Item.place text))
    (λ k left h. broken_here old levels inside opens k left (here.fault k left (bad_name h)))
    c.in_err-name-in-Item.field-0.0 c.in_err-name-in-Item.ensures.fault)

pub returns-in_err-after-in-Item-clause-err : goal.returns-in_err-after-in-Item-clause-err
returns-in_err-after-in-Item-clause-err c =
    let r = c.from_residual-in_err-after-in-Item in
    let p = err_from_is_err_and r.result r.ensures.1 in
    let text = c.args.text.now in
    let old = drop c.args.at text in
    let (inside, before, so, opens, state, gathered) = c.loop-next.invariant.sofar in
    let here = rw c.in-Item.is at state in
    let fault = c.in_err-after-in-Item.field-0.0 in
    let named = c.in_ok-name-in-Item.ensures.ok in
    rw (p.1, p.2) (broken_here old c.args.levels inside opens fault.kind (drop fault.at text)
    (here.fault fault.kind (drop fault.at text)
    (bad_value _ (drop c.in_ok-name-in-Item.name.after text) named c.in_err-after-in-Item.ensures.fault)))

pub returns-in_err-next-in-Item-clause-err : goal.returns-in_err-next-in-Item-clause-err
returns-in_err-next-in-Item-clause-err c =
    let r = c.from_residual-in_err-next-in-Item in
    let p = err_from_is_err_and r.result r.ensures.1 in
    let text = c.args.text.now in
    let old = drop c.args.at text in
    let (inside, before, so, opens, state, gathered) = c.loop-next.invariant.sofar in
    let here = rw c.in-Item.is at state in
    let fault = c.in_err-next-in-Item.field-0.0 in
    let named = c.in_ok-name-in-Item.ensures.ok in
    let (e, reads, fits) = c.in_ok-after-in-Item.ensures.ok in
    rw (p.1, p.2) (broken_here old c.args.levels inside opens fault.kind (drop fault.at text)
    (members.stops c.args.levels text inside before c.in-Item.place c.in_ok-after-in-Item.after _ e
    here
    (record { value = drop c.in_ok-name-in-Item.name.after text; named = named; reads = reads; fits = fits })
    fault.kind (drop fault.at text) c.in_err-next-in-Item.ensures.fault))

pub loop-next-preserved : goal.loop-next-preserved
loop-next-preserved c =
    let text = c.args.text.now in
    let (inside, before, so, opens, state, gathered) = c.loop-next.invariant.sofar in
    let here = rw c.in-Item.is at state in
    let sofar = rw c.in-Item.is at gathered in
    let order = rw c.in-Item.is at c.loop-next.invariant.onward in
    let name = c.in_ok-name-in-Item.name in
    let named = c.in_ok-name-in-Item.ensures.ok in
    let (e, reads, fits) = c.in_ok-after-in-Item.ensures.ok in
    let next = c.in_ok-next-in-Item in
    let after = c.in_ok-after-in-Item.after in
    record {
      sofar = (
        inside,
        _,
        with_member so (cow_str_bytes name.value) e,
        opens,
        members.goes_on c.args.levels text inside before c.in-Item.place after _ e here
            (record { value = drop name.after text; named = named; reads = reads; fits = fits })
            next.next next.ensures.ok,
        rw c.in_ok-push_member-in-Item.ensures
            (goes_on c.args.levels text inside c.loop-next.members.items so c.in-Item.place after
            (record { name = name.value; place = name.after }) e sofar named reads fits next.next
            next.ensures.ok),
      );
      onward = behind_further c.args.at after next.next text
          (omega (arith, order, c.in_ok-name-in-Item.ensures.behind, c.in_ok-after-in-Item.ensures.behind.forward))
          next.ensures.behind;
    }
