use Rattle.std.proofs.Common.{◌∙◌}
use Rattle.std.proofs.lemmas.Result.{on_ok_weaker}
use Rattle.wire_fields.specs.Nest.{listed_row, row_pushed}
use Rattle.wire_tables.specs.CallFamily as family
use Rattle.wire_tables.specs.declared.call.Call.{Call}
use Rattle.wire_tables.specs.declared.expression.Expression.{Expression}
use Rattle.wire_tables.specs.declared.call.Call.{out-Call, fold_out-Call}
use Rattle.wire_tables.specs.declared.call.Call.TheFolds.{fold-roll-Call}
use Rattle.wire_tables.specs.declared.call.Call.TheFolds.{map-Call}
use Rattle.wire_tables.proofs.call.CallRecursiveMemberFamilyHeld.push.Goals as goal

pub returns-in-0-Expression-clause-ok : goal.returns-in-0-Expression-clause-ok
returns-in-0-Expression-clause-ok c =
    λ here many kind. on_ok_weaker c.push_message.result (λ pushed. rw (
      c.in-0-Expression.is-0,
      c.in-0-Expression.is-1,
      fold_out-Call family.Family-Tree family.Family-Tree family.call-one family.expression-one c.args.self.now,
    ) (fold-roll-Call family.Family-Tree family.Family-Tree family.call-one family.expression-one _
    ∙ row_pushed family.expression-value 0
    (family.call-one (map-Call Call Expression family.Family-Tree family.Family-Tree family.call-value family.expression-value
    (out-Call c.args.self.now)))
    _ _ c.in-0-Expression.message (listed_row _) pushed)) c.push_message.ensures.ok
