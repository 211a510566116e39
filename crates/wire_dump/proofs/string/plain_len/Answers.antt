use Rattle.std.proofs.Common.{◌≡◌, ◌∷◌, [], get_or, rules}
use Rattle.wire_dump.specs.Lines.{escaped_byte}
use Rattle.wire_dump.proofs.Escaped.{one_plain}
use Rattle.wire_dump.proofs.string.plain_len.Goals as goal

pub loop-count-preserved : goal.loop-count-preserved
loop-count-preserved c =
    let b = get_or c.args.bytes.now c.loop-count.count 0 in
    let same : escaped_byte b ≡ b ∷ [] = search rules in
    one_plain c.args.bytes.now c.loop-count.count 0 c.loop-count.invariant c.loop-count-test.true
    same
