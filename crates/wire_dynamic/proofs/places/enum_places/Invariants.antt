use Rattle.std.proofs.Common.{◌≡◌, Some, take, slice_get}
use Rattle.std.specs.BTreeMap.{get_by_text}
use Rattle.wire_dynamic.specs.Places.{enum_has_name}
use Rattle.wire_dynamic.specs.Table.{IsTableOf}
use Rattle.wire_dynamic.proofs.places.enum_places.Given as goal

abbrev pub invariant-loop-place : goal.invariant-loop-place
invariant-loop-place l = IsTableOf enum_has_name (λ e i. slice_get l.declared i ≡ Some e)
    (take l.place l.declared) (get_by_text l.places)
