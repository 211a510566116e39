use Rattle.std.proofs.Common.{arith}
use Rattle.wire_callers.proofs.Counters.{record_size}
use Rattle.wire_callers.proofs.counter.Counter.record_size.Goals as goal

pub returns : goal.returns
returns c =
    let same = record_size c.args.self.now.value c.if-self-eq0.false in
    omega (arith, same, c.saturate_size.ensures, c.saturating_add.ensures, c.varint_len.ensures)
