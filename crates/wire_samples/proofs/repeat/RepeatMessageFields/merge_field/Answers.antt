use Rattle.std.proofs.Common.{rules}
use Rattle.std.proofs.lemmas.Result.{err_from_is_err_and}
use Rattle.wire_samples.proofs.RepeatSteps.{no_number, other_number, count_taken, mark_taken}
use Rattle.wire_samples.proofs.repeat.RepeatMessageFields.merge_field.Goals as goal
use Rattle.wire_samples.proofs.repeat.RepeatMessageFields.merge_field.Goals.{in-1-eq0, in-2-eq128}
use Rattle.wire_samples.proofs.repeat.RepeatMessageFields.merge_field.Goals.{in_default-via-in-1+in_default, in_default-via-in-2+in_default, in_default-via-in_default}

pub returns-in_err-decode_varint-clause-err : goal.returns-in_err-decode_varint-clause-err
returns-in_err-decode_varint-clause-err g c =
    let p = err_from_is_err_and c.from_residual.result c.from_residual.ensures.1 in
    rw (p.1, p.2) (λ other. no_number _ _ _ _ _ c.no_varint_beside_fault.ensures _
    c.in_err-decode_varint.ensures.fault)

pub returns-in_default-clause-err : goal.returns-in_default-clause-err
returns-in_default-clause-err g c = λ other.
    other_number _ _ _ _ _ c.records_in_order.ensures.reading.varint _ _
    c.in_ok-decode_varint.ensures.ok
    (λ one zero room. let number = c.field_number.ensures.number in
    elim c.in_default.branch [
      | in_default-via-in-1+in_default w ↦ search rules
      | in_default-via-in-2+in_default w ↦ search rules
      | in_default-via-in_default w ↦ search rules
    ])
    (λ two mark. let number = c.field_number.ensures.number in
    elim c.in_default.branch [
      | in_default-via-in-1+in_default w ↦ search rules
      | in_default-via-in-2+in_default w ↦ search rules
      | in_default-via-in_default w ↦ search rules
    ])

pub returns-clause-ok : goal.returns-clause-ok
returns-clause-ok g c =
    elim c.match-this.branch [
      | in-1-eq0 w ↦ rw (w.self-is) (count_taken _ _ _ _ _ c.records_in_order.ensures.limits
          (search rules) _ _ c.in_ok-decode_varint.ensures.ok (search rules) (search rules)
          (search rules))
      | in-2-eq128 w ↦ rw (w.self-is) (mark_taken _ _ _ _ _ c.records_in_order.ensures.limits
          (search rules) _ _ c.in_ok-decode_varint.ensures.ok (search rules) (search rules))
    ]
