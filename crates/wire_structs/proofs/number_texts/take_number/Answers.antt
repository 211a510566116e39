use Rattle.wire_fields.proofs.NumberTexts.{in_form}
use Rattle.wire_fields.proofs.Reading.{on_err_from}
use Rattle.wire_structs.proofs.number_texts.take_number.Goals as goal

pub returns-in-Varint-clause-ok : goal.returns-in-Varint-clause-ok
returns-in-Varint-clause-ok c = rw c.in-Varint.is c.decode_varint.ensures.ok

pub returns-in-Varint-clause-err : goal.returns-in-Varint-clause-err
returns-in-Varint-clause-err c =
    on_err_from c.decode_varint.result (λ e fault x new h. c.no_varint_beside_fault.ensures _ new x e
    (in_form x c.in-Varint.is h) fault)
    c.decode_varint.ensures.fault
