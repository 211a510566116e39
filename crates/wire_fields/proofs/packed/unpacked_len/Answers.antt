use Rattle.std.proofs.Common.{ap, ◌∙◌}
use Rattle.std.proofs.lemmas.List.{map-id}
use Rattle.wire_codec.specs.Records.{text_size}
use Rattle.wire_fields.specs.Numbers.{numeric, in_64_bits}
use Rattle.wire_fields.specs.Presence.{each_record}
use Rattle.wire_fields.proofs.packed.unpacked_len.Goals as goal

pub returns : goal.returns
returns g c =
    let t = numeric g.N.Number.form g.N.Number.map in
    c.each_len.ensures
    ∙ ap (λ xs. in_64_bits (text_size (each_record t c.args.number xs))) (map-id c.args.values.now)
