use Rattle.std.proofs.Common.{◌+◌, ◌-◌, length, refl}
use Rattle.wire_base.specs.Field.{varint}
use Rattle.wire_dump.specs.Dumps.{number}
use Rattle.wire_dump.specs.Lines.{number_line}
use Rattle.wire_dump.proofs.Front.{line_taken}
use Rattle.wire_dump.proofs.Put.{IsMargin}
use Rattle.wire_dump.proofs.record.put_varint.Goals as goal

pub returns : goal.returns
returns c =
    let y = c.args.layout in
    let all = c.args.bytes.now in
    let behind = c.args.behind.now in
    let rest = c.decode_varint.new.buf.now in
    let n = c.args.number in
    let v = c.in-Ok.value in
    let count = length all - length rest in
    let margin : IsMargin y c.args.place (c.args.place + count) c.margin-margin.result = record {
      shown = c.margin-margin.ensures.shown;
      start = c.margin-margin.ensures.start;
      end_is = c.margin-margin.ensures.end;
    } in
    line_taken y c.args.place n count (varint v) all behind rest (number_line y.level n v)
    c.args.out.now.items c.put_number.new.out.items c.margin-margin.result (λ e. absurd cc)
    c.requires.tag c.in-Ok.ensures.ok refl (λ text is. number is refl) margin c.in_ok-put_number.ensures
