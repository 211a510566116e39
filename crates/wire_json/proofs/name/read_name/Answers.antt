use Rattle.std.proofs.Common.{drop}
use Rattle.std.proofs.lemmas.Result.{err_from_is_err_and}
use Rattle.std.specs.Cow.{cow_str_bytes}
use Rattle.wire_json.proofs.Names.{colon_fault, name_fault}
use Rattle.wire_json.proofs.name.read_name.Goals as goal

pub returns-in_err-read-clause-fault : goal.returns-in_err-read-clause-fault
returns-in_err-read-clause-fault c =
    let p = err_from_is_err_and c.from_residual.result c.from_residual.ensures.1 in
    let text = c.args.text.now in
    rw (p.1, p.2) (name_fault text (drop c.args.at text) c.in_err-read.field-0.0
    c.in_err-read.ensures.fault)

pub returns-in_err-read-2-clause-fault : goal.returns-in_err-read-2-clause-fault
returns-in_err-read-2-clause-fault c =
    let p = err_from_is_err_and c.from_residual-in_err-read-2.result
    c.from_residual-in_err-read-2.ensures.1 in
    let text = c.args.text.now in
    let read = c.in_ok-read.read in
    let fault = c.in_err-read-2.field-0.0 in
    rw (p.1, p.2) (colon_fault (cow_str_bytes read.value) (drop c.args.at text)
    (drop read.after text) fault.kind (drop fault.at text) c.in_ok-read.ensures.ok
    c.in_err-read-2.ensures.fault)
