use Rattle.std.proofs.Common.{arith}
use Rattle.std.proofs.lemmas.Result.{err_from_is_err_and}
use Rattle.wire_base.specs.Tag.{no_varint, no_tag}
use Rattle.wire_base.proofs.Tags.{tag_error-large, tag_error-type, tag_error-zero, wire_number-below}
use Rattle.wire_base.proofs.tag.Tag.decode.Goals as goal

pub returns-in_err-value-clause-fault : goal.returns-in_err-value-clause-fault
returns-in_err-value-clause-fault g c =
    let p = err_from_is_err_and c.from_residual.result c.from_residual.ensures.1 in
    rw (p.1, p.2) (no_varint c.in_err-value.ensures.fault)

pub returns-then-value-clause-fault : goal.returns-then-value-clause-fault
returns-then-value-clause-fault g c =
    no_tag c.in_ok-value.value _ c.in_ok-value.ensures.ok
    (tag_error-large c.in_ok-value.value c.if-value.true)

pub returns-in_err-wire_type-clause-fault : goal.returns-in_err-wire_type-clause-fault
returns-in_err-wire_type-clause-fault g c =
    let p = err_from_is_err_and c.from_residual-in_err-wire_type.result
    c.from_residual-in_err-wire_type.ensures.1 in
    let err = c.in_err-wire_type.ensures.err in
    rw (p.1, p.2, err.1)
    (no_tag c.in_ok-value.value _ c.in_ok-value.ensures.ok
    (tag_error-type c.in_ok-value.value (omega arith) err.0))

pub returns-then-field_number-eq0-clause-fault : goal.returns-then-field_number-eq0-clause-fault
returns-then-field_number-eq0-clause-fault g c =
    no_tag c.in_ok-value.value _ c.in_ok-value.ensures.ok
    (tag_error-zero c.in_ok-value.value (omega arith)
    (rw c.in_ok-wire_type.ensures.ok at (wire_number-below c.in_ok-wire_type.wire_type)))
