use Rattle.wire_fields.specs.Numbers.{numeric}
use Rattle.wire_fields.proofs.Repeating.{each_reads}
use Rattle.wire_fields.proofs.packed.UnpackedNumericKind.put.Goals as goal

pub returns-clause-read : goal.returns-clause-read
returns-clause-read g c =
    each_reads c.joined_records_add_up.ensures c.fields_are_plain.ensures
    c.flat_messages_have_no_sizes.ensures (numeric g.N.Number.form g.N.Number.map) c.args.number
    c.args.held.now.items _ c.put_unpacked.result
