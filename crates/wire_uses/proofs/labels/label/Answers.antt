use Rattle.std.proofs.Common.{arith}
use Rattle.std.specs.BTreeMap.{is_at}
use Rattle.std.specs.Cmp.Lexicographic.{slice_cmp}
use Rattle.std.specs.Ordering.{nat_cmp}
use Rattle.wire_uses.proofs.Entries.{lookup-seen}
use Rattle.wire_uses.proofs.labels.label.Goals as goal

pub returns : goal.returns
returns c =
    let key = c.args.key.now in
    let seen = lookup-seen (is_at (slice_cmp nat_cmp key)) c.args.report.now.labels.entries in
    grind (arith, seen, c.get.ensures.value, c.map.ensures.cases)
