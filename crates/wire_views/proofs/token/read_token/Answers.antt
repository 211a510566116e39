use Rattle.std.proofs.Common.{sym, ◌∙◌}
use Rattle.wire_views.proofs.TokenLaws.{varint_read, no_varint_read, bytes_read, no_bytes_read}
use Rattle.wire_views.proofs.TokenLaws.{fixed64_read, fixed32_read}
use Rattle.wire_views.proofs.token.read_token.Goals as goal

pub returns-in-Ok-clause-token : goal.returns-in-Ok-clause-token
returns-in-Ok-clause-token c =
    varint_read c.one_varint.ensures _ _ _ _ _ (sym c.wire_type.ensures ∙ c.in-Varint.is)
    c.in-Ok.ensures.ok

pub returns-in-Err-clause-token : goal.returns-in-Err-clause-token
returns-in-Err-clause-token c =
    no_varint_read c.no_varint_beside_fault.ensures _ _ _ _
    (sym c.wire_type.ensures ∙ c.in-Varint.is) c.in-Err.ensures.fault

pub returns-in-Ok-decode_fixed64-clause-token : goal.returns-in-Ok-decode_fixed64-clause-token
returns-in-Ok-decode_fixed64-clause-token c =
    let value = c.in-Ok-decode_fixed64.ensures.ok in
    rw value.is (fixed64_read _ _ _ _ _ (sym c.wire_type.ensures ∙ c.in-Fixed64.is) value.read)

pub returns-in-Ok-borrow_bytes-clause-token : goal.returns-in-Ok-borrow_bytes-clause-token
returns-in-Ok-borrow_bytes-clause-token c =
    bytes_read c.one_delimited.ensures _ _ _ _ _
    (sym c.wire_type.ensures ∙ c.in-LengthDelimited.is) c.in-Ok-borrow_bytes.ensures.ok

pub returns-in-Err-borrow_bytes-clause-token : goal.returns-in-Err-borrow_bytes-clause-token
returns-in-Err-borrow_bytes-clause-token c =
    no_bytes_read c.no_delimited_beside_fault.ensures _ _ _ _
    (sym c.wire_type.ensures ∙ c.in-LengthDelimited.is) c.in-Err-borrow_bytes.ensures.fault

pub returns-in-Ok-decode_fixed32-clause-token : goal.returns-in-Ok-decode_fixed32-clause-token
returns-in-Ok-decode_fixed32-clause-token c =
    let value = c.in-Ok-decode_fixed32.ensures.ok in
    rw value.is (fixed32_read _ _ _ _ _ (sym c.wire_type.ensures ∙ c.in-Fixed32.is) value.read)
