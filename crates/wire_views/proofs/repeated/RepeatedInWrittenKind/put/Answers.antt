use Rattle.std.proofs.Common.{map}
use Rattle.wire_fields.proofs.Repeating.{each_reads}
use Rattle.wire_views.proofs.repeated.RepeatedInWrittenKind.put.Goals as goal

pub returns-clause-read : goal.returns-clause-read
returns-clause-read g c =
    each_reads c.joined_records_add_up.ensures c.fields_are_plain.ensures
    c.flat_messages_have_no_sizes.ensures g.S.ViewScalar.scalar c.args.number
    (map g.S.ViewScalar.view c.args.held.now.items) _ c.put_each.result
