use Rattle.std.proofs.lemmas.Result.{err_from_is_err_and}
use Rattle.wire_dynamic.proofs.Declaring.{decode_fault}
use Rattle.wire_dynamic.proofs.declared.DeclaredMessage.nested.Goals as goal

pub returns-in_err-descriptor-clause-err : goal.returns-in_err-descriptor-clause-err
returns-in_err-descriptor-clause-err c =
    let r = c.from_residual-in_err-descriptor in
    let p = err_from_is_err_and r.result r.ensures.1 in
    rw p.1 (decode_fault c.args.self.now c.args.bytes.now _ p.0 p.2 (c.in_err-descriptor).ensures.err)
