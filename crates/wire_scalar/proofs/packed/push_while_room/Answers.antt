use Rattle.wire_scalar.proofs.Packing.{Appended-none, Appended-more}
use Rattle.wire_scalar.proofs.packed.push_while_room.Goals as goal

pub loop-values-init : goal.loop-values-init
loop-values-init g c = Appended-none _ _ _ _

pub loop-values-preserved : goal.loop-values-preserved
loop-values-preserved g c =
    Appended-more _ _ _ _ _ _ _ _ _ c.loop-values.invariant
    (record {
      number = c.in-Ok.number;
      read = rw c.in-Ok.is at c.split_varint.ensures.ok;
      is = c.value_of.ensures;
    }) c.push_reserved.ensures.items
