use Rattle.std.proofs.Common.{sym, ◌∙◌}
use Rattle.std.proofs.lemmas.Result.{err_from_is_err_and}
use Rattle.wire_base.proofs.LimitsLaws.{uncounted_slot}
use Rattle.wire_base.specs.Fault.{no_varint, no_bytes, short_fixed64, short_fixed32, end_outside}
use Rattle.wire_structs.proofs.unknown_record.read_payload.Goals as goal

pub returns-in_err-decode_varint-in-Varint-clause-fault :
    goal.returns-in_err-decode_varint-in-Varint-clause-fault
returns-in_err-decode_varint-in-Varint-clause-fault c =
    let p = err_from_is_err_and c.from_residual.result c.from_residual.ensures.1 in
    rw (p.1, p.2, sym c.wire_type.ensures ∙ c.in-Varint.is)
    (λ depth. no_varint (uncounted_slot depth) (c.in_err-decode_varint-in-Varint).ensures.fault)

pub returns-in_err-decode_fixed64-in-Fixed64-clause-fault :
    goal.returns-in_err-decode_fixed64-in-Fixed64-clause-fault
returns-in_err-decode_fixed64-in-Fixed64-clause-fault c =
    let r = c.from_residual-in_err-decode_fixed64-in-Fixed64 in
    let p = err_from_is_err_and r.result r.ensures.1 in
    let short = (c.in_err-decode_fixed64-in-Fixed64).ensures.short in
    rw (p.1, p.2, short.0, sym c.wire_type.ensures ∙ c.in-Fixed64.is)
    (λ depth. short_fixed64 (uncounted_slot depth) short.1)

pub returns-in_err-borrow_bytes-in-LengthDelimited-clause-fault :
    goal.returns-in_err-borrow_bytes-in-LengthDelimited-clause-fault
returns-in_err-borrow_bytes-in-LengthDelimited-clause-fault c =
    let r = c.from_residual-in_err-borrow_bytes-in-LengthDelimited in
    let p = err_from_is_err_and r.result r.ensures.1 in
    rw (p.1, p.2, sym c.wire_type.ensures ∙ c.in-LengthDelimited.is)
    (λ depth. no_bytes (uncounted_slot depth)
    (c.in_err-borrow_bytes-in-LengthDelimited).ensures.fault)

pub returns-in_err-decode_fixed32-in-Fixed32-clause-fault :
    goal.returns-in_err-decode_fixed32-in-Fixed32-clause-fault
returns-in_err-decode_fixed32-in-Fixed32-clause-fault c =
    let r = c.from_residual-in_err-decode_fixed32-in-Fixed32 in
    let p = err_from_is_err_and r.result r.ensures.1 in
    let short = (c.in_err-decode_fixed32-in-Fixed32).ensures.short in
    rw (p.1, p.2, short.0, sym c.wire_type.ensures ∙ c.in-Fixed32.is)
    (λ depth. short_fixed32 (uncounted_slot depth) short.1)

pub returns-in-EndGroup-clause-fault : goal.returns-in-EndGroup-clause-fault
returns-in-EndGroup-clause-fault c =
    rw (sym c.wire_type.ensures ∙ c.in-EndGroup.is) (λ depth. end_outside (uncounted_slot depth))

pub returns-in-StartGroup-clause-fault : goal.returns-in-StartGroup-clause-fault
returns-in-StartGroup-clause-fault c =
    absurd (c.requires (sym c.wire_type.ensures ∙ c.in-StartGroup.is))
