use Rattle.std.proofs.Common.{length-append, arith}
use Rattle.wire_base.specs.Varint.{shortest_varint}
use Rattle.wire_base.proofs.VarintLaws.{IsSpelling-shortest_varint}
use Rattle.wire_base.proofs.room.Room.fit.Goals as goal

pub overflow_add-result : goal.overflow_add-result
overflow_add-result c =
    let first = (IsSpelling-shortest_varint c.args.first (omega arith)).at_most_ten in
    let second = (IsSpelling-shortest_varint c.args.second (omega arith)).at_most_ten in
    omega (
      arith,
      first,
      second,
      c.varint_len.ensures,
      c.varint_len-else-left-behind-2.ensures,
    )

pub returns-then-left-behind-2-clause-fit : goal.returns-then-left-behind-2-clause-fit
returns-then-left-behind-2-clause-fit c =
    let first = (IsSpelling-shortest_varint c.args.first (omega arith)).at_most_ten in
    let second = (IsSpelling-shortest_varint c.args.second (omega arith)).at_most_ten in
    let both = length-append (shortest_varint c.args.first) (shortest_varint c.args.second) in
    λ _. omega (arith, first, second, both, c.left-left.ensures)
