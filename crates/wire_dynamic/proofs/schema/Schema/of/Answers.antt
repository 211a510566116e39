use Rattle.std.specs.Prelude.{◌≢◌}
use Rattle.std.proofs.Common.{inl, inr}
use Rattle.std.proofs.lemmas.Result.{err_from_is_err_and, IfErr-weaker, IfOk-weaker}
use Rattle.wire_dynamic.specs.declared.error.SchemaError.TheVariants.{OutOfMemory}
use Rattle.wire_dynamic.specs.Refusals.{HasNoSchema, SchemaFault}
use Rattle.wire_dynamic.specs.Schemas.{IsSchema, IsSchemaOf}
use Rattle.wire_dynamic.proofs.schema.Schema.of.Goals as goal

pub returns-in_err-declared-clause-err : goal.returns-in_err-declared-clause-err
returns-in_err-declared-clause-err c =
    let p = err_from_is_err_and c.from_residual.result c.from_residual.ensures.1 in
    rw (p.1, p.2) (λ other. inl ((c.in_err-declared).ensures.err other))

pub returns-clause-ok : goal.returns-clause-ok
returns-clause-ok c =
    IfOk-weaker c.of_declared.result (IsSchema c.in_ok-declared.declared)
    (IsSchemaOf c.args.set.now)
    (λ s is. record { declared = c.in_ok-declared.declared; from_set = c.in_ok-declared.ensures.ok; schema = is })
    c.of_declared.ensures.ok

pub returns-clause-err : goal.returns-clause-err
returns-clause-err c =
    IfErr-weaker c.of_declared.result
    (λ e. e ≢ OutOfMemory → SchemaFault c.in_ok-declared.declared e)
    (λ e. e ≢ OutOfMemory → HasNoSchema c.args.set.now e)
    (λ e fault other. inr (c.in_ok-declared.declared, c.in_ok-declared.ensures.ok, fault other))
    c.of_declared.ensures.err
