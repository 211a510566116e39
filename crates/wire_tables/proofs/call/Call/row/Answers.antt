use Rattle.std.proofs.Common.{◌∙◌, ap, map, sym}
use Rattle.wire_fields.specs.Nest.{listed_row}
use Rattle.wire_tables.specs.CallFamily as family
use Rattle.wire_tables.specs.declared.call.Call.{fold_out-Call}
use Rattle.wire_tables.proofs.call.Call.row.Goals as goal

pub returns-in-0-clause-messages : goal.returns-in-0-clause-messages
returns-in-0-clause-messages c =
    rw (c.in-0.is, fold_out-Call family.Family-Tree family.Family-Tree family.call-one family.expression-one c.args.self.now)
    (ap (map family.expression-value) c.deref.ensures.value ∙ sym (listed_row _))
