use Rattle.std.specs.Prelude.{◌≢◌}
use Rattle.std.proofs.Common.{ap, inl, inr, ◌∙◌}
use Rattle.std.proofs.lemmas.Result.{err_from_is_err_and, IfErr-weaker, IfOk-weaker}
use Rattle.wire_dynamic.specs.declared.error.SchemaError.TheVariants.{OutOfMemory}
use Rattle.wire_dynamic.specs.Errors.{decode_failed}
use Rattle.wire_dynamic.specs.Refusals.{BytesHaveNoSchema, HasNoSchema}
use Rattle.wire_dynamic.specs.Schemas.{IsDecodedSchema, IsSchemaOf}
use Rattle.wire_dynamic.proofs.Refused.{no_set}
use Rattle.wire_dynamic.proofs.schema.Schema.decode.Goals as goal

pub returns-in_err-set-clause-err : goal.returns-in_err-set-clause-err
returns-in_err-set-clause-err c =
    let p = err_from_is_err_and c.from_residual.result c.from_residual.ensures.1 in
    rw p.1 (λ other. inl ((c.in_err-set).ensures.err (λ none. other (p.2 ∙ ap decode_failed none)), no_set _ p.0 p.2 other))

pub returns-clause-ok : goal.returns-clause-ok
returns-clause-ok c =
    IfOk-weaker c.of.result (IsSchemaOf c.in_ok-set.set) (IsDecodedSchema c.args.bytes.now)
    (λ s is. record { set = c.in_ok-set.set; decoded = c.in_ok-set.ensures.ok; schema = is })
    c.of.ensures.ok

pub returns-clause-err : goal.returns-clause-err
returns-clause-err c =
    IfErr-weaker c.of.result (λ e. e ≢ OutOfMemory → HasNoSchema c.in_ok-set.set e)
    (λ e. e ≢ OutOfMemory → BytesHaveNoSchema c.args.bytes.now e)
    (λ e fault other. inr (c.in_ok-set.set, c.in_ok-set.ensures.ok, fault other))
    c.of.ensures.err
