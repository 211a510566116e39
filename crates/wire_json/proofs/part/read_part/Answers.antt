use Rattle.std.proofs.Common.{drop, sym}
use Rattle.std.proofs.lemmas.Result.{err_from_is_err_and}
use Rattle.wire_json.specs.Fault.{bad_escape}
use Rattle.wire_json.proofs.Runs.{past_run, stopped_at}
use Rattle.wire_json.proofs.part.read_part.Goals as goal

pub returns-then-not-stands-clause-fault : goal.returns-then-not-stands-clause-fault
returns-then-not-stands-clause-fault c =
    let text = c.args.text.now in
    rw c.syntax.ensures (stopped_at _ (drop c.args.at text) (drop c.plain_end-end.result text)
    c.in_ok-run.ensures.ok c.plain_end-end.ensures.plain (sym c.if-stands.ensures.test)
    (sym c.if-not-stands.ensures.test))

pub returns-in_err-escape-clause-fault : goal.returns-in_err-escape-clause-fault
returns-in_err-escape-clause-fault c =
    let p = err_from_is_err_and c.from_residual-in_err-escape.result
    c.from_residual-in_err-escape.ensures.1 in
    let text = c.args.text.now in
    let fault = c.in_err-escape.field-0.0 in
    rw (p.1, p.2) (past_run _ (drop c.args.at text) (drop c.plain_end-end.result text) fault.kind
    (drop fault.at text) c.in_ok-run.ensures.ok
    (bad_escape (sym c.if-not-stands.ensures.test) c.in_err-escape.ensures.fault))
