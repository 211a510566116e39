use Rattle.std.proofs.lemmas.Result.{err_from_is_err_and}
use Rattle.wire_dynamic.specs.Refusals.{in_extension, in_message, named_twice}
use Rattle.wire_dynamic.proofs.schema.Schema.of_declared.Goals as goal

pub returns-clause-ok : goal.returns-clause-ok
returns-clause-ok c = record {
  places = c.in_ok-places.ensures.ok;
  messages = c.in_ok-messages.ensures.ok;
  enums = c.in_ok-enums.ensures;
  extensions = c.in_ok-extensions.ensures.ok;
}

pub returns-in_err-places-clause-err : goal.returns-in_err-places-clause-err
returns-in_err-places-clause-err c =
    let r = c.from_residual in
    let p = err_from_is_err_and r.result r.ensures.1 in
    rw (p.1, p.2) (λ other. named_twice ((c.in_err-places).ensures.err other))

pub returns-in_err-messages-clause-err : goal.returns-in_err-messages-clause-err
returns-in_err-messages-clause-err c =
    let r = c.from_residual-in_err-messages in
    let p = err_from_is_err_and r.result r.ensures.1 in
    rw (p.1, p.2) (λ other. in_message c.in_ok-places.places c.in_ok-places.ensures.ok ((c.in_err-messages).ensures.err other))

pub returns-in_err-extensions-clause-err : goal.returns-in_err-extensions-clause-err
returns-in_err-extensions-clause-err c =
    let r = c.from_residual-in_err-extensions in
    let p = err_from_is_err_and r.result r.ensures.1 in
    rw (p.1, p.2) (λ other. in_extension c.in_ok-places.places c.in_ok-places.ensures.ok ((c.in_err-extensions).ensures.err other))
