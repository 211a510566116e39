use Rattle.std.proofs.Common.{drop}
use Rattle.wire_codec.specs.Records.{text}
use Rattle.wire_codec.specs.Writes.{IsWrittenTo}
use Rattle.wire_fields.specs.Packed.{packed_text, packed_records}
use Rattle.wire_fields.proofs.packed.put_packed.Given as goal

-- the numbers so far are written, and those that are left come next
abbrev pub invariant-loop-value : goal.invariant-loop-value
invariant-loop-value g l =
    let form = g.N.Number.form in
    let values = g.N.Number.map in
    IsWrittenTo (text (packed_records form values l.fn.number l.fn.values))
    (g.E.EncodeSink.held l.fn.sink) (g.E.EncodeSink.held l.sink)
    (packed_text form values (drop l.value-index l.values))
