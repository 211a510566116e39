use Rattle.std.proofs.Common.{◌++◌, ap, sym, append-nil}
use Rattle.wire_base.specs.Field.{type_of}
use Rattle.wire_base.specs.Tag.{tag_text}
use Rattle.wire_base.specs.Text.{payload_text}
use Rattle.wire_base.specs.UnknownFields.{payload_of}
use Rattle.wire_base.proofs.Sinks.{bytes_written}
use Rattle.wire_base.proofs.TextLaws.{writes_shortest}
use Rattle.wire_base.proofs.unknown_fields.UnknownField.write_to.Goals as goal

pub returns-clause-shortest : goal.returns-clause-shortest
returns-clause-shortest g c =
    let n = c.args.self.now.number in
    let p = payload_of c.args.self.now.value in
    writes_shortest _ _ _ _ c.write_record.result
    (ap (λ t. tag_text n (type_of p) ++ t) (sym (append-nil (payload_text n p))))
    (bytes_written _ _ _ c.write_record.result c.write_record.ensures)
