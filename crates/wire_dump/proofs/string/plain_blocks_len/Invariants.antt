use Rattle.std.proofs.Common.{◌-◌, length}
use Rattle.wire_dump.proofs.Escaped.{IsPlain}
use Rattle.wire_dump.proofs.string.plain_blocks_len.Given as goal

abbrev pub invariant-loop-count : goal.invariant-loop-count
invariant-loop-count l = IsPlain l.bytes l.count

abbrev pub decreases-loop-count : goal.decreases-loop-count
decreases-loop-count l = length l.bytes - l.count
