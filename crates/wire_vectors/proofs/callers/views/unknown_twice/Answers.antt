use Rattle.std.proofs.Common.{rules, ◌∙◌}
use Rattle.std.proofs.lemmas.Result.{err_from_is_err_and}
use Rattle.wire_codec.specs.Options.{default_limits}
use Rattle.wire_vectors.proofs.callers.views.unknown_twice.Goals as goal

pub returns-in_err-view-clause-err : goal.returns-in_err-view-clause-err
returns-in_err-view-clause-err c =
    let r = c.from_residual-in_err-view in
    let p = err_from_is_err_and r.result r.ensures.1 in
    rw (p.1, p.2) (λ other. absurd (other (c.in_err-view.ensures.decoded default_limits _ (search rules) (search rules)
    (λ b room. rw c.new-context.ensures tt)
    c.in_ok-person.ensures.ok)))

pub returns-in_err-to_owned_fields-clause-err : goal.returns-in_err-to_owned_fields-clause-err
returns-in_err-to_owned_fields-clause-err c =
    let r = c.from_residual-in_err-to_owned_fields in
    let p = err_from_is_err_and r.result r.ensures.1 in
    let (spelled, depth) = c.in_ok-view.ensures.decoded default_limits _ (search rules) (search rules)
    (λ b room. rw c.new-context.ensures tt)
    c.in_ok-person.ensures.ok in
    rw (p.1, p.2) (λ other. absurd (other (c.in_err-to_owned_fields.ensures.only _ spelled
    (search rules))))

pub returns-clause-same : goal.returns-clause-same
returns-clause-same c =
    let (spelled, depth) = c.in_ok-view.ensures.decoded default_limits _ (search rules) (search rules)
    (λ b room. rw c.new-context.ensures tt)
    c.in_ok-person.ensures.ok in
    c.in_ok-to_owned_fields.ensures.only _ spelled (search rules) ∙ search rules
