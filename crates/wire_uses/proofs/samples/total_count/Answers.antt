use Rattle.std.proofs.Common.{arith, rules, ◌≡◌}
use Rattle.std.proofs.lemmas.Int.{ints}
use Rattle.wire_uses.proofs.Totals.{one_more}
use Rattle.wire_uses.proofs.samples.total_count.Goals as goal

pub loop-sample-preserved : goal.loop-sample-preserved
loop-sample-preserved c =
    let all = c.args.report.now.samples.items in
    let is : c.deref-sample-items.result.now ≡ all = search rules in
    let here = rw is at c.sample-item.is in
    let within = rw is at c.loop-sample-test.true in
    let step = one_more all c.loop-sample.sample-index c.sample-item.result within here in
    let inv = c.loop-sample.invariant in (
      omega (arith, ints, step, inv.0, c.unwrap_or.ensures, c.from-total.ensures),
      omega (arith, ints, inv.1, c.unwrap_or.ensures, c.from-total.ensures),
      omega (arith, ints, inv.2, c.unwrap_or.ensures, c.from-total.ensures),
    )
