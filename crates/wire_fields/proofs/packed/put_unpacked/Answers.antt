use Rattle.std.proofs.Common.{subst}
use Rattle.std.proofs.lemmas.List.{map-id}
use Rattle.wire_codec.specs.Records.{text}
use Rattle.wire_codec.specs.Writes.{Writes}
use Rattle.wire_fields.specs.Numbers.{numeric}
use Rattle.wire_fields.specs.Presence.{each_record}
use Rattle.wire_fields.proofs.packed.put_unpacked.Goals as goal

pub returns : goal.returns
returns g c =
    let t = numeric g.N.Number.form g.N.Number.map in
    subst (λ xs. Writes (text (each_record t c.args.number xs))
    (g.E.EncodeSink.held c.args.sink.now) (g.E.EncodeSink.held c.put_each.new.sink)
    c.put_each.result) (map-id c.args.values.now) c.put_each.ensures
