use Rattle.std.proofs.Common.{sym, arith}
use Rattle.wire_fields.proofs.TextSizes.{some_varint, one_byte}
use Rattle.wire_fields.proofs.number_list.len_beyond_first.Goals as goal

pub returns-then-x-lt128 : goal.returns-then-x-lt128
returns-then-x-lt128 c = rw (c.in-Varint.is) (sym (one_byte c.args.x c.if-x-lt128.true))

pub overflow_sub-result : goal.overflow_sub-result
overflow_sub-result c = omega (arith, some_varint c.args.x, c.varint_len.ensures)

pub returns-else-x-lt128 : goal.returns-else-x-lt128
returns-else-x-lt128 c =
    rw (c.in-Varint.is) (omega (arith, some_varint c.args.x, c.varint_len.ensures))
