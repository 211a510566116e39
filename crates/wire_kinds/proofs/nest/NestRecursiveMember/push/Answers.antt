use Rattle.std.proofs.Common.{◌∙◌}
use Rattle.std.proofs.lemmas.Result.{on_ok_weaker}
use Rattle.wire_fields.specs.Nest.{listed_row, row_pushed}
use Rattle.wire_kinds.specs.Nest.{Nest-Value, nest-one, nest-value}
use Rattle.wire_kinds.specs.declared.nest.Nest.{Nest, out-Nest, fold_out-Nest}
use Rattle.wire_kinds.specs.declared.nest.Nest.TheFolds.{fold-roll-Nest, map-Nest}
use Rattle.wire_kinds.proofs.nest.NestRecursiveMember.push.Goals as goal

pub returns-in-1-clause-ok : goal.returns-in-1-clause-ok
returns-in-1-clause-ok c =
    λ here many kind. on_ok_weaker c.push_message.result (λ pushed. rw (
      c.in-1.is,
      fold_out-Nest Nest-Value nest-one c.args.self.now,
    ) (fold-roll-Nest Nest-Value nest-one _
    ∙ row_pushed nest-value 1
    (nest-one (map-Nest Nest Nest-Value nest-value (out-Nest c.args.self.now)))
    _ _ c.args.message (listed_row _) pushed)) c.push_message.ensures.ok
