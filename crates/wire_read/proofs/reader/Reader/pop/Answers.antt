use Rattle.std.proofs.Common.{◌≡◌, ◌<◌, ◌≤◌, length, min, rules, arith}
use Rattle.wire_read.specs.Reading.{levels_in}
use Rattle.wire_read.proofs.Stack.{popped}
use Rattle.wire_read.proofs.reader.Reader.pop.Goals as goal

pub returns-clause-groups : goal.returns-clause-groups
returns-clause-groups c =
    let r = c.args.self.now in
    let k = c.open_count.result in
    let is : k ≡ min r.group_count (levels_in r) = search rules in
    let few : k ≤ length r.groups = search (rules, arith) in
    let some : 0 < k = search (rules, arith) in
    popped r k is few some
