use Rattle.std.proofs.Common.{◌≡◌, Some, take, slice_get}
use Rattle.std.specs.BTreeMap.{get_by_text}
use Rattle.wire_dynamic.specs.Places.{message_has_name}
use Rattle.wire_dynamic.specs.Table.{IsTableOf}
use Rattle.wire_dynamic.proofs.places.message_places.Given as goal

abbrev pub invariant-loop-place : goal.invariant-loop-place
invariant-loop-place l = IsTableOf message_has_name (λ m i. slice_get l.declared i ≡ Some m)
    (take l.place l.declared) (get_by_text l.places)
