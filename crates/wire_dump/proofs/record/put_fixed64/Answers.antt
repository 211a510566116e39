use Rattle.std.proofs.Common.{ℕ, ◌+◌, ◌-◌, length, refl, sym, subst}
use Rattle.std.specs.Int.{w64}
use Rattle.wire_base.specs.Fixed.{IsFixed}
use Rattle.wire_base.specs.Read.{Reads}
use Rattle.wire_base.specs.Field.{fixed64}
use Rattle.wire_dump.specs.Dumps.{eight_bytes}
use Rattle.wire_dump.specs.Lines.{fixed_line}
use Rattle.wire_dump.proofs.Front.{line_taken}
use Rattle.wire_dump.proofs.Put.{IsMargin}
use Rattle.wire_dump.proofs.record.put_fixed64.Goals as goal

pub returns : goal.returns
returns c =
    let y = c.args.layout in
    let all = c.args.bytes.now in
    let behind = c.args.behind.now in
    let rest = c.decode_fixed64.new.buf.now in
    let n = c.args.number in
    let v = c.in-Ok.value in
    let count = length all - length rest in
    let margin : IsMargin y c.args.place (c.args.place + count) c.margin-margin.result = record {
      shown = c.margin-margin.ensures.shown;
      start = c.margin-margin.ensures.start;
      end_is = c.margin-margin.ensures.end;
    } in
    let h = c.in-Ok.ensures.ok in
    let read : Reads behind (IsFixed w64 v) rest =
    subst (λ (x : ℕ). Reads behind (IsFixed w64 x) rest) (sym h.is) h.read in
    line_taken y c.args.place n count (fixed64 v) all behind rest (fixed_line y.level n 16 v)
    c.args.out.now.items c.put_fixed.new.out.items c.margin-margin.result (λ e. absurd cc)
    c.requires.tag read refl (λ text is. eight_bytes is refl) margin c.in_ok-put_fixed.ensures
