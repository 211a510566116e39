-- The numbers of a packed list, whether they stay where they were read or not.
use Rattle.std.specs.Prelude.{List, ◌++◌}
use Rattle.wire_codec.specs.ValueMap.{ValueMap}
use Rattle.wire_fields.specs.declared.form.Form.{Form}
use Rattle.wire_views.specs.FixedNumbers.{values_in}
use Rattle.wire_views.specs.declared.fixed_list.FixedList.{FixedList}
use Rattle.wire_views.specs.declared.fixed_list.FixedList.TheVariants.{InPlace, Listed}
use Rattle.wire_views.specs.declared.fixed_list.FixedNumbers.{FixedNumbers}

-- the values of the numbers, in order
abbrev pub list_values : {S T : Type 0} → Form → ValueMap T → FixedList S T → List T
list_values form values (InPlace payload) = values_in form values payload.now
list_values form values (Listed vs) = vs.items

-- those that are still to come
abbrev pub values_left : {N T : Type 0} → Form → ValueMap T → FixedNumbers N T → List T
values_left form values left = values_in form values left.bytes.now ++ left.values.now
