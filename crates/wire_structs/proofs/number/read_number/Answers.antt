use Rattle.std.proofs.lemmas.Result.{IfOk-weaker}
use Rattle.wire_fields.proofs.Reading.{varint_number, fixed64_number, fixed32_number}
use Rattle.wire_fields.proofs.Reading.{no_varint_number, on_err_from}
use Rattle.wire_structs.proofs.number.read_number.Goals as goal

pub returns-in_ok-check_wire_type-in-Varint-clause-ok :
    goal.returns-in_ok-check_wire_type-in-Varint-clause-ok
returns-in_ok-check_wire_type-in-Varint-clause-ok g c =
    IfOk-weaker c.decode_varint.result _ _ (λ x h. varint_number _ _ _ x _ _ c.in-Varint.is
    (c.in_ok-check_wire_type-in-Varint).ensures.ok h) c.decode_varint.ensures.ok

pub returns-in_ok-check_wire_type-in-Varint-clause-err :
    goal.returns-in_ok-check_wire_type-in-Varint-clause-err
returns-in_ok-check_wire_type-in-Varint-clause-err g c =
    on_err_from c.decode_varint.result (λ e h. no_varint_number
    c.no_varint_beside_fault.ensures _ _ _ _ e c.in-Varint.is h)
    c.decode_varint.ensures.fault

pub returns-in_ok-check_wire_type-in-Fixed64-clause-ok :
    goal.returns-in_ok-check_wire_type-in-Fixed64-clause-ok
returns-in_ok-check_wire_type-in-Fixed64-clause-ok g c =
    IfOk-weaker c.decode_fixed64.result _ _ (λ x h. fixed64_number _ _ _ x _ _ c.in-Fixed64.is
    (c.in_ok-check_wire_type-in-Fixed64).ensures.ok h) c.decode_fixed64.ensures.ok

pub returns-in_ok-decode_fixed32-in-Fixed32-clause-ok :
    goal.returns-in_ok-decode_fixed32-in-Fixed32-clause-ok
returns-in_ok-decode_fixed32-in-Fixed32-clause-ok g c =
    rw (c.from.ensures) (fixed32_number _ _ _ _ _ _ c.in-Fixed32.is
    (c.in_ok-check_wire_type-in-Fixed32).ensures.ok (c.in_ok-decode_fixed32-in-Fixed32).ensures.ok)
