use Rattle.std.proofs.Common.{◌∙◌, ap, map, sym}
use Rattle.wire_fields.specs.Nest.{listed_row}
use Rattle.wire_well_known.specs.ListValueFamily as family
use Rattle.wire_well_known.specs.declared.list_value.ListValue.{fold_out-ListValue}
use Rattle.wire_well_known.proofs.list_value.ListValue.row.Goals as goal

pub returns-in-0-clause-messages : goal.returns-in-0-clause-messages
returns-in-0-clause-messages c =
    rw (c.in-0.is, fold_out-ListValue family.ValueKind-Held family.Family-Tree family.Family-Tree family.Family-Tree family.Family-Tree family.value_kind-one family.list_value-one family.struct_-one family.struct_fields_entry-one family.value-one c.args.self.now)
    (ap (map family.value-value) c.deref.ensures.value ∙ sym (listed_row _))
