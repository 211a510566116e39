use Rattle.std.proofs.Common.{length}
use Rattle.wire_codec.specs.Records.{text}
use Rattle.wire_codec.specs.Writes.{IsWrittenTo}
use Rattle.wire_fields.specs.Packed.{packed_text, packed_records}
use Rattle.wire_views.specs.FixedNumbers.{values_in}
use Rattle.wire_views.proofs.fixed_written.put_in_place.Given as goal

-- the numbers so far are written, and those that are left come next
abbrev pub invariant-loop-x : goal.invariant-loop-x
invariant-loop-x g l =
    let form = g.N.Number.form in
    let values = g.N.Number.map in
    IsWrittenTo (text (packed_records form values l.fn.number (values_in form values l.fn.payload)))
    (g.E.EncodeSink.held l.fn.sink) (g.E.EncodeSink.held l.sink)
    (packed_text form values (values_in form values l.rest))

abbrev pub decreases-loop-x : goal.decreases-loop-x
decreases-loop-x g l = length l.rest
