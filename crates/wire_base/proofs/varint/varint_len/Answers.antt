use Rattle.std.proofs.Common.{arith}
use Rattle.wire_base.proofs.Varints.{length-shortest_varint}
use Rattle.wire_base.proofs.varint.varint_len.Goals as goal

pub returns : goal.returns
returns c =
    length-shortest_varint c.args.value c.ilog2.result (omega arith)
    (rw c.max.ensures at c.ilog2.ensures.power_le)
    (rw c.max.ensures at c.ilog2.ensures.next_power_gt) c.ilog2.ensures.bound
