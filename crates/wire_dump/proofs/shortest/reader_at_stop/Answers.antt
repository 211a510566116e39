use Rattle.std.proofs.Common.{◌≡◌, [], ◌∷◌, ◌++◌, refl, rules, subst}
use Rattle.wire_base.specs.Charge.{charge}
use Rattle.wire_base.specs.Ending.{by_input}
use Rattle.wire_read.specs.declared.event.Fault.{Fault}
use Rattle.wire_read.specs.Budget.{read_limits}
use Rattle.wire_read.specs.Reading.{Gives, IsDone, Stops, at, groups_of, item}
use Rattle.wire_dump.specs.Refused.{BreaksAt}
use Rattle.wire_dump.proofs.shortest.reader_at_stop.Goals as goal

pub loop-event-preserved : goal.loop-event-preserved
loop-event-preserved c =
    let all = c.args.bytes.now in
    let e = c.in-Ok-Some._event in
    let given : Gives e all (at c.loop-event.reader all) (at c.next.new.self all) = search rules in
    let next = item e.number e.value in (
      c.loop-event.invariant.0 ++ next ∷ [],
      c.reader_goes_on.ensures _ _ _ next _ _ given.behind c.loop-event.invariant.1 given.moves,
    )

-- at the end the bytes have no fault
pub returns-in_default : goal.returns-in_default
returns-in_default c = λ f is.
    let all = c.args.bytes.now in
    let l = read_limits c.args.context.now in
    let done : IsDone (at c.loop-event.reader all) = search rules in
    let (fs, spelled, fits, items) = c.reader_is_done.ensures _ _ _ _ c.loop-event.invariant.1 done in
    absurd (c.no_list_beside_fault.ensures l by_input all [] f.error fs is.of_list
    ((c.whole_input.ensures (charge fs) l fs all []).1 (spelled, fits, refl)))

pub returns-in_default-2 : goal.returns-in_default-2
returns-in_default-2 c = λ f is.
    let all = c.args.bytes.now in
    let l = read_limits c.args.context.now in
    let r = c.loop-event.reader in
    let stops : Stops c.in_default.field-0 all (at r all) = search rules in
    let (found, here, groups, items) = c.reader_stops.ensures _ _ _ _ _ c.loop-event.invariant.1
    stops in
    let same : c.in_default.field-0 ≡ f = c.one_fault.ensures _ _ _ _ found is in
    let kept : c.next.new.self ≡ r = search rules in
    rw kept (subst (λ (x : Fault). BreaksAt l all x (groups_of r)) same
    (record { is = found; groups_are = groups }))
