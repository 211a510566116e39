use Rattle.std.proofs.Common.{rules, ◌≡◌}
use Rattle.wire_scalar.proofs.Packing.{Appended-more}
use Rattle.wire_scalar.proofs.packed.extend_as.Goals as goal

pub loop-rest-init : goal.loop-rest-init
loop-rest-init g c =
    let pushed = c.push_while_room-rest.ensures in
    let before : c.args.out.now.items ≡ c.replace-values.result.items = search rules in
    let after : c.replace.new.dest.items ≡ c.push_while_room-rest.new.values.items = search rules in
    record { front = pushed.0; parts = pushed.1; appended = rw (before, after) pushed.2 }

pub loop-rest-preserved : goal.loop-rest-preserved
loop-rest-preserved g c =
    Appended-more _ _ _ _ _ _ _ _ _ c.loop-rest.invariant
    (record {
      number = c.in_ok-number.number;
      read = c.in_ok-number.ensures.ok;
      is = c.value_of.ensures;
    }) c.in_ok-push.ensures.items
