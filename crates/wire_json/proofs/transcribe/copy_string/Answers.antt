use Rattle.std.proofs.Common.{◌+◌, drop, sym}
use Rattle.std.proofs.lemmas.Result.{err_from_is_err_and}
use Rattle.wire_json.specs.Fault.{no_quote}
use Rattle.wire_json.proofs.Chars.{fault_in_string}
use Rattle.wire_json.proofs.transcribe.copy_string.Goals as goal

pub returns-then-not-stands-clause-fault : goal.returns-then-not-stands-clause-fault
returns-then-not-stands-clause-fault c =
    rw c.syntax.ensures (no_quote (sym c.if-not-stands.ensures.test))

pub returns-in_err-after-clause-fault : goal.returns-in_err-after-clause-fault
returns-in_err-after-clause-fault c =
    let p = err_from_is_err_and c.from_residual-in_err-after.result
    c.from_residual-in_err-after.ensures.1 in
    let text = c.args.text.now in
    rw (p.1, p.2) (fault_in_string text (drop c.args.at text) (drop (c.args.at + 1) text)
    c.if-not-stands.ensures.here c.in_err-after.field-0.0 c.in_err-after.ensures.fault)
