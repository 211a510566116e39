use Rattle.std.proofs.Common.{rules}
use Rattle.wire_fields.specs.Numbers.{numeric}
use Rattle.wire_fields.specs.Presence.{each_record}
use Rattle.wire_fields.proofs.Measuring.{unsized}
use Rattle.wire_fields.proofs.Repeating.{each_sizes}
use Rattle.wire_fields.proofs.packed.UnpackedNumericKind.len.Goals as goal

pub returns-clause-ok : goal.returns-clause-ok
returns-clause-ok g c =
    let t = numeric g.N.Number.form g.N.Number.map in
    let values = c.args.held.now.items in
    unsized (each_record t c.args.number values) _ c.unpacked_len.result
    (each_sizes c.joined_records_add_up.ensures c.fields_are_plain.ensures t c.args.number values)
    (search rules)
