use Rattle.std.proofs.Common.{drop, map}
use Rattle.wire_codec.specs.Records.{text}
use Rattle.wire_codec.specs.Writes.{IsWrittenTo}
use Rattle.wire_fields.specs.Presence.{each_record}
use Rattle.wire_structs.proofs.written_lists.put_values.Given as goal

-- the values so far are written, and those that are left come next
abbrev pub invariant-loop-value : goal.invariant-loop-value
invariant-loop-value g l =
    let each = each_record g.S.StructScalar.scalar l.fn.number in
    IsWrittenTo (text (each (map g.S.StructScalar.view l.fn.values)))
    (g.E.EncodeSink.held l.fn.sink) (g.E.EncodeSink.held l.sink)
    (text (each (map g.S.StructScalar.view (drop l.value-index l.values))))
