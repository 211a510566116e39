use Rattle.std.proofs.Common.{drop}
use Rattle.wire_base.specs.Sink.{IsWrittenTo}
use Rattle.wire_base.specs.Text.{text_of}
use Rattle.wire_base.specs.UnknownFields.{fields_of}
use Rattle.wire_base.proofs.unknown_fields.+write.Given as goal

abbrev pub invariant-UnknownFields::write_fields-loop-field : goal.invariant-UnknownFields::write_fields-loop-field
invariant-UnknownFields::write_fields-loop-field g l =
    IsWrittenTo (text_of l.fn.self) (g.S.EncodeSink.held l.fn.sink) (g.S.EncodeSink.held l.sink)
    (text_of (fields_of (drop l.field-index l.field-items)))
