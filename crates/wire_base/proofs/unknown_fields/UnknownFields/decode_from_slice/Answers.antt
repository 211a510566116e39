use Rattle.wire_base.proofs.Decoded.{only_these}
use Rattle.wire_base.proofs.unknown_fields.UnknownFields.decode_from_slice.Goals as goal

pub returns-clause-only : goal.returns-clause-only
returns-clause-only c =
    let read = c.decode_from_slice_within in
    only_these _ c.args.bytes.now read.result read.ensures.spelled
    (rw c.new-context.ensures at read.ensures.fault)
