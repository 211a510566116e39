use Rattle.std.proofs.Common.{◌∙◌, ap, map, sym}
use Rattle.wire_fields.specs.Nest.{listed_row}
use Rattle.wire_kinds.specs.Nest.{Nest-Value, nest-one, nest-value}
use Rattle.wire_kinds.specs.declared.nest.Nest.{fold_out-Nest}
use Rattle.wire_kinds.proofs.nest.NestRecursiveAlone.row.Goals as goal

pub returns-in-1 : goal.returns-in-1
returns-in-1 c =
    rw (c.in-1.is, fold_out-Nest Nest-Value nest-one c.args.self.now)
    (ap (map nest-value) (c.deref-in-1).ensures.value ∙ sym (listed_row _))
