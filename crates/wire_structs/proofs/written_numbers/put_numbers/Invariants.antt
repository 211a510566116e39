use Rattle.std.proofs.Common.{drop, map}
use Rattle.wire_codec.specs.Records.{text}
use Rattle.wire_codec.specs.Writes.{IsWrittenTo}
use Rattle.wire_fields.specs.Packed.{packed_records, packed_text}
use Rattle.wire_structs.proofs.written_numbers.put_numbers.Given as goal

-- the numbers so far are written, and those that are left come next
abbrev pub invariant-loop-value : goal.invariant-loop-value
invariant-loop-value g l =
    let form = g.S.StructNumber.form in
    let values = g.S.StructNumber.map in
    let view = g.S.StructNumber.view in
    IsWrittenTo (text (packed_records form values l.fn.number (map view l.fn.values)))
    (g.E.EncodeSink.held l.fn.sink) (g.E.EncodeSink.held l.sink)
    (packed_text form values (map view (drop l.value-index l.values)))
