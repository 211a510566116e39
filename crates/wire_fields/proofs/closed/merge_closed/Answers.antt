use Rattle.std.proofs.Common.{◌≡◌, rules}
use Rattle.std.proofs.lemmas.Result.{err_from_is_err_and, IfErr-weaker}
use Rattle.std.specs.Prelude.{Some, None}
use Rattle.wire_codec.specs.ValueMap.{int32}
use Rattle.wire_fields.proofs.Closing.{no_varint, known_taken, not_kept}
use Rattle.wire_fields.proofs.closed.merge_closed.Goals as goal

pub returns-in_err-x-clause-err : goal.returns-in_err-x-clause-err
returns-in_err-x-clause-err g c =
    let p = err_from_is_err_and c.from_residual.result c.from_residual.ensures.1 in
    rw (p.1, p.2) (λ other. no_varint g.E.Enumeration.of_number _ _ _ _ _ c.in_err-x.ensures.err)

pub returns-in-Some-clause-ok : goal.returns-in-Some-clause-ok
returns-in-Some-clause-ok g c =
    let is : g.E.Enumeration.of_number (int32.dec c.in_ok-x.x) ≡ Some c.in-Some.value = search rules in
    known_taken g.E.Enumeration.of_number _ _ _ _ _ c.records_in_order.ensures.limits _ _ _ is
    c.in_ok-x.ensures.ok

pub returns-in-None-clause-err : goal.returns-in-None-clause-err
returns-in-None-clause-err g c =
    let is : g.E.Enumeration.of_number (int32.dec c.in_ok-x.x) ≡ None = search rules in
    IfErr-weaker c.keep_number.result _ _ (λ e none other. not_kept g.E.Enumeration.of_number
    _ _ _ _ _ c.records_in_order.ensures.reading _ _ is c.in_ok-x.ensures.ok (none other))
    c.keep_number.ensures.err
