use Rattle.std.proofs.Common.{arith}
use Rattle.std.proofs.lemmas.Result.{on_ok_weaker}
use Rattle.wire_dump.proofs.Decimal.{pair_put}
use Rattle.wire_dump.proofs.line.put_three_or_four.Goals as goal

pub returns : goal.returns
returns c =
    on_ok_weaker c.put_pair.result
    (pair_put c.args.number c.args.out.now.items c.put_one_or_two.new.out.items
    c.put_pair.new.out.items c.requires.more (omega arith) c.in_ok-put_one_or_two.ensures)
    c.put_pair.ensures
