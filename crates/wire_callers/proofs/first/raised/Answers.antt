use Rattle.std.proofs.Common.{ap, subst, ◌∙◌, ◌≢◌, ◌≤◌, length}
use Rattle.std.proofs.lemmas.Result.{err_from_is_err_and}
use Rattle.wire_codec.specs.DecodeError.TheVariants.{OutOfMemory}
use Rattle.wire_codec.specs.Options.{limits_of, with_message_size, with_unknown_fields}
use Rattle.wire_codec.specs.Taking.{NotDecoded}
use Rattle.wire_callers.specs.Counter.{CounterTakes}
use Rattle.wire_callers.proofs.first.raised.Goals as goal

pub returns-in_err-counter-clause-err : goal.returns-in_err-counter-clause-err
returns-in_err-counter-clause-err c =
    let p = err_from_is_err_and c.from_residual.result c.from_residual.ensures.1 in
    let limits = c.with_unknown_field_limit-limits.ensures
    ∙ ap (λ o. with_unknown_fields o 10) (c.with_max_message_size.ensures
    ∙ ap (λ o. with_message_size o 4096) c.new.ensures) in
    rw (p.1, p.2) (λ other large short. subst (λ o. length c.args.input.now ≤ o.max_message_size
    → c.in_err-counter.field-0.0 ≢ OutOfMemory
    → NotDecoded CounterTakes (limits_of o) (record { value = 0 }) c.args.input.now)
    limits c.in_err-counter.ensures.err short other)
