use Rattle.std.proofs.lemmas.Result.{err_from_is_err_and}
use Rattle.wire_base.specs.Fault.{bad_tag, other_end}
use Rattle.wire_base.proofs.tag.Tag.decode_in_group.Goals as goal

pub returns-in_err-tag-clause-fault : goal.returns-in_err-tag-clause-fault
returns-in_err-tag-clause-fault g c =
    let p = err_from_is_err_and c.from_residual.result c.from_residual.ensures.1 in
    rw (p.1, p.2) (bad_tag c.in_err-tag.ensures.fault)

pub returns-in-EndGroup-clause-fault : goal.returns-in-EndGroup-clause-fault
returns-in-EndGroup-clause-fault g c =
    other_end _ _ (rw c.in-EndGroup.is at c.in_ok-tag.ensures.ok)
    (λ same. c.if-tag-number.false same)
