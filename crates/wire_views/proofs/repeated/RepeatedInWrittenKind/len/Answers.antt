use Rattle.std.proofs.Common.{map, rules}
use Rattle.wire_fields.specs.Presence.{each_record}
use Rattle.wire_fields.proofs.Measuring.{unsized}
use Rattle.wire_fields.proofs.Repeating.{each_sizes}
use Rattle.wire_views.proofs.repeated.RepeatedInWrittenKind.len.Goals as goal

pub returns-clause-ok : goal.returns-clause-ok
returns-clause-ok g c =
    let t = g.S.ViewScalar.scalar in
    let values = map g.S.ViewScalar.view c.args.held.now.items in
    unsized (each_record t c.args.number values) _ c.each_len.result
    (each_sizes c.joined_records_add_up.ensures c.fields_are_plain.ensures t c.args.number values)
    (search rules)
