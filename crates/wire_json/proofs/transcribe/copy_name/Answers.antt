use Rattle.std.proofs.Common.{drop}
use Rattle.std.proofs.lemmas.Result.{err_from_is_err_and}
use Rattle.wire_json.proofs.Names.{colon_fault, name_fault}
use Rattle.wire_json.proofs.transcribe.copy_name.Goals as goal

pub returns-in_err-behind-clause-fault : goal.returns-in_err-behind-clause-fault
returns-in_err-behind-clause-fault c =
    let p = err_from_is_err_and c.from_residual.result c.from_residual.ensures.1 in
    let text = c.args.text.now in
    rw (p.1, p.2) (name_fault text (drop c.args.at text) c.in_err-behind.field-0.0
    c.in_err-behind.ensures.fault)

pub returns-in_err-value-clause-fault : goal.returns-in_err-value-clause-fault
returns-in_err-value-clause-fault c =
    let p = err_from_is_err_and c.from_residual-in_err-value.result
    c.from_residual-in_err-value.ensures.1 in
    let text = c.args.text.now in
    let behind = drop c.in_ok-behind.behind text in
    let (name, reads, put) = c.in_ok-behind.ensures.ok in
    let fault = c.in_err-value.field-0.0 in
    rw (p.1, p.2) (colon_fault name (drop c.args.at text) behind fault.kind (drop fault.at text)
    reads c.in_err-value.ensures.fault)
