use Rattle.std.proofs.lemmas.Result.{err_from_is_err_and}
use Rattle.wire_fields.proofs.variants.merge_new.Goals as goal

pub returns-in_err-merge-clause-err : goal.returns-in_err-merge-clause-err
returns-in_err-merge-clause-err g c =
    let p = err_from_is_err_and c.from_residual.result c.from_residual.ensures.1 in
    rw (p.1, p.2, ← c.empty-value.ensures) c.in_err-merge.ensures.err
