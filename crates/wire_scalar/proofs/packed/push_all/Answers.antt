use Rattle.wire_scalar.proofs.Packing.{Appended-more, whole_rest}
use Rattle.wire_scalar.proofs.packed.push_all.Goals as goal

pub loop-rest-preserved : goal.loop-rest-preserved
loop-rest-preserved g c = record {
  so_far = Appended-more _ _ _ _ _ _ _ _ _ c.loop-rest.invariant.so_far c.in_ok-decode.ensures.ok
      c.in_ok-push.ensures.items;
  whole = whole_rest _ _ _ _ _ c.loop-rest.invariant.whole c.in_ok-decode.ensures.ok;
}
