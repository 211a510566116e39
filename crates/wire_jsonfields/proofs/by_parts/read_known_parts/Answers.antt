use Rattle.std.proofs.Common.{drop}
use Rattle.std.proofs.lemmas.Result.{err_from_is_err_and}
use Rattle.wire_json.specs.Json.{object}
use Rattle.wire_jsonfields.proofs.MessageReads.{in_slice, no_object, none_said}
use Rattle.wire_jsonfields.proofs.by_parts.read_known_parts.Goals as goal

pub returns-in_err-object-clause-err : goal.returns-in_err-object-clause-err
returns-in_err-object-clause-err g c =
    let p = err_from_is_err_and c.from_residual.result c.from_residual.ensures.1 in
    let text = c.args.text.now in
    rw (p.1, p.2) (no_object g.P.JsonPart.says c.args.levels (drop c.args.at text) text
    c.in_err-object.field-0.0 c.in_err-object.ensures.err)

pub returns-in_err-held-clause-err : goal.returns-in_err-held-clause-err
returns-in_err-held-clause-err g c =
    let r = c.from_residual-in_err-held in
    let p = err_from_is_err_and r.result r.ensures.1 in
    let text = c.args.text.now in
    let read = c.in_ok-object.object in
    let (ms, reads, fits, are) = c.in_ok-object.ensures.ok in
    let entries = in_slice text ms c.as_slice.result.now read.members.items c.as_slice.ensures.value
    are in
    rw (p.1, p.2) (λ other. none_said g.P.JsonPart.says c.args.levels (drop c.args.at text) ms
    (drop read.after text) reads
    (λ v deep says. c.in_err-held.ensures.err other ms entries deep v says))

pub returns-clause-ok : goal.returns-clause-ok
returns-clause-ok g c =
    let text = c.args.text.now in
    let (ms, reads, fits, are) = c.in_ok-object.ensures.ok in
    let entries = in_slice text ms c.as_slice.result.now c.in_ok-object.object.members.items
    c.as_slice.ensures.value are in
    (object ms, reads, fits, c.in_ok-held.ensures.ok ms entries)
