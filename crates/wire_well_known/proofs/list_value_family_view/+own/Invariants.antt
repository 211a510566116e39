use Rattle.std.proofs.Common.{◌≡◌, map, take}
use Rattle.wire_well_known.specs.ListValueFamily as family
use Rattle.wire_well_known.proofs.list_value_family_view.+own.Given as goal

abbrev pub invariant-each_owned_value-loop-view : goal.invariant-each_owned_value-loop-view
invariant-each_owned_value-loop-view l =
    map family.value-value l.messages.items
    ≡ map family.value-view_value (take l.view-index l.views)

abbrev pub invariant-each_owned_struct_fields_entry-loop-view : goal.invariant-each_owned_struct_fields_entry-loop-view
invariant-each_owned_struct_fields_entry-loop-view l =
    map family.struct_fields_entry-value l.messages.items
    ≡ map family.struct_fields_entry-view_value (take l.view-index l.views)
