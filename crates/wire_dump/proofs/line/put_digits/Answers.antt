use Rattle.std.proofs.Common.{◌<◌, ◌≤◌, ℕ, List, ◌++◌, ap, sym, ◌∙◌, arith, rules}
use Rattle.std.proofs.lemmas.Result.{on_ok_weaker}
use Rattle.wire_dump.proofs.Decimal.{pair_put, two_digits}
use Rattle.wire_dump.proofs.line.put_digits.Goals as goal

pub returns-then-number-lt100 : goal.returns-then-number-lt100
returns-then-number-lt100 c =
    let n = c.args.number in
    let old = c.args.out.now.items in
    let few : n < 100 = search (rules, arith) in
    on_ok_weaker c.put_pair.result
    (λ e. e ∙ ap (λ (x : List ℕ). old ++ x) (sym (two_digits n c.requires few)))
    c.put_pair.ensures

pub returns-then-number-lt1000000 : goal.returns-then-number-lt1000000
returns-then-number-lt1000000 c =
    let n = c.args.number in
    let many : 100 ≤ n = search (rules, arith) in
    on_ok_weaker c.put_pair-then-number-lt1000000.result
    (pair_put n c.args.out.now.items c.put_three_or_four-then-number-lt1000000.new.out.items
    c.put_pair-then-number-lt1000000.new.out.items many (omega arith)
    c.in_ok-put_three_or_four.ensures)
    c.put_pair-then-number-lt1000000.ensures
