use Rattle.std.proofs.Common.{◌≡◌, ◌+◌, ◌-◌, ◌≤◌, take, drop, length, arith, rules}
use Rattle.wire_dump.specs.Lines.{escaped}
use Rattle.wire_dump.proofs.Escaped.{block_plain}
use Rattle.wire_dump.proofs.string.plain_blocks_len.Goals as goal

pub loop-count-preserved : goal.loop-count-preserved
loop-count-preserved c =
    let bytes = c.args.bytes.now in
    let count = c.loop-count.count in
    let block = take (count + 8 - count) (drop count bytes) in
    let same : escaped block ≡ block = search rules in
    let room : count + 8 ≤ length bytes =
    omega (arith, c.loop-count.invariant.within, c.loop-count-test.true) in
    block_plain bytes count 8 c.loop-count.invariant room same
