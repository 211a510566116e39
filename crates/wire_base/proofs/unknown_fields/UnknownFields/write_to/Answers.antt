use Rattle.std.proofs.Common.{refl}
use Rattle.wire_base.proofs.Sinks.{bytes_written}
use Rattle.wire_base.proofs.TextLaws.{writes_shortest}
use Rattle.wire_base.proofs.unknown_fields.UnknownFields.write_to.Goals as goal

pub returns-clause-shortest : goal.returns-clause-shortest
returns-clause-shortest g c =
    writes_shortest _ _ _ _ c.write_fields.result refl (bytes_written _ _ _ c.write_fields.result c.write_fields.ensures)
