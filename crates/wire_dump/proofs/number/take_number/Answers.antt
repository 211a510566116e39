use Rattle.std.proofs.Common.{subst}
use Rattle.wire_base.specs.declared.tag.WireType.{WireType}
use Rattle.wire_base.specs.Read.{Reads}
use Rattle.wire_base.specs.Varint.{IsSpelling}
use Rattle.wire_dump.specs.Numbers.{IsNumber}
use Rattle.wire_dump.proofs.number.take_number.Goals as goal

pub returns-in-Err-clause-none : goal.returns-in-Err-clause-none
returns-in-Err-clause-none c = λ x rest read.
    let all = c.args.bytes.now.now in
    let there = subst (λ (w : WireType). Reads all (IsNumber w x) rest) c.in-Varint.is read in
    let varint : Reads all (IsSpelling x) rest = record {
      text = there.text;
      parts = there.parts;
      spelled = there.spelled;
    } in
    c.no_varint_beside_fault.ensures all rest x c.in-Err.field-0 varint c.in-Err.ensures.fault
