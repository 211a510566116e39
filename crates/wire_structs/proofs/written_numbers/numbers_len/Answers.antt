use Rattle.std.proofs.Common.{◌∙◌, map, sym}
use Rattle.wire_structs.proofs.PackedWriting.{packed_len, some_mapped}
use Rattle.wire_structs.proofs.written_numbers.numbers_len.Goals as goal

pub returns : goal.returns
returns g c =
    let s = g.S.StructNumber in
    packed_len s.form s.map c.args.number (map s.view c.args.values.now) _ _
    (some_mapped s.view c.args.values.now (sym c.is_empty.ensures ∙ c.if-is_empty.false))
    c.payload_len.ensures c.delimited_len.ensures
