use Rattle.std.proofs.Common.{subst, ◌<◌, arith, refl}
use Rattle.std.proofs.lemmas.Result.{err_from_is_err_and}
use Rattle.wire_base.specs.Delimited.{no_length, too_large, cut_short}
use Rattle.wire_base.proofs.DelimitedLaws.{delimited_at}
use Rattle.wire_base.proofs.payload.decode_length.Goals as goal

pub returns-in_err-len-clause-fault : goal.returns-in_err-len-clause-fault
returns-in_err-len-clause-fault g c =
    let p = err_from_is_err_and c.from_residual.result c.from_residual.ensures.1 in
    rw (p.1, p.2) (no_length c.in_err-len.ensures.fault)

pub returns-then-is_above-clause-fault : goal.returns-then-is_above-clause-fault
returns-then-is_above-clause-fault g c =
    too_large _ _ c.in_ok-len.ensures.ok (c.is_above.ensures.above c.if-is_above.true)

pub returns-then-remaining-len-clause-fault : goal.returns-then-remaining-len-clause-fault
returns-then-remaining-len-clause-fault g c =
    cut_short _ _ c.in_ok-len.ensures.ok (c.is_above.ensures.within c.if-is_above.false)
    (subst (λ n. n < c.in_ok-len.len) c.remaining.ensures c.if-remaining-len.true)

pub returns-clause-payload : goal.returns-clause-payload
returns-clause-payload g c =
    delimited_at _ _ _ _ c.in_ok-len.ensures.ok (omega (arith, c.remaining.ensures)) refl
